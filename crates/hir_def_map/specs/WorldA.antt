-- An example world of two crates and two blocks.
use Rattle.std.specs.Prelude.{[], ◌∷◌, Some, None, codes}
use Rattle.dm_base.specs.declared.fields_shape.FieldsShape.TheVariants.{Tuple}
use Rattle.dm_base.specs.declared.imports.ImportOrDef.TheVariants as stands_for
use Rattle.dm_base.specs.declared.item_ids.ItemKind.TheVariants as kind
use Rattle.dm_base.specs.declared.macros.MacroExpander.TheVariants.{Declarative}
use Rattle.dm_base.specs.declared.macros.MacroLoc.TheVariants.{MacroRules}
use Rattle.dm_base.specs.declared.edition.Edition.TheVariants.{Edition2015, Edition2021}
use Rattle.dm_base.specs.declared.visibility.Visibility.TheVariants.{Public}
use Rattle.dm_base.specs.declared.visibility.VisibilityExplicitness.TheVariants.{Implicit}
use Rattle.dm_scope.specs.Scope.{Scope, no_scope}
use Rattle.dm_def_map.specs.Maps.{LocalMap, Map}
use Rattle.dm_maps.specs.Build.{no_world}
use Rattle.dm_maps.specs.World.{World}
use Rattle.hir_def_map.specs.Written.{a_module, a_struct, a_function, an_enum, by_rules, within, leaf, named, named_value, an_item, crate_id, block_id, number, place, bindings, binds_types, module_with, a_map}

abbrev pub root_of_a : Scope
root_of_a = record no_scope {
  types = bindings
      ((codes "E", an_item (an_enum 0) Public None)
      ∷ (codes "a", an_item (a_module 1) Public None)
      ∷ (codes "c", an_item (a_module 3) Public None)
      ∷ (codes "u8", an_item (a_module 7) Public None)
      ∷ (codes "P", an_item (a_struct 1) Public (Some (named 0 0)))
      ∷ (codes "R", an_item (a_struct 1) Public (Some (named 0 1))) ∷ [])
      ((named 0 0, stands_for.Import (leaf 1 0)) ∷ (named 0 1, stands_for.Def (a_struct 1)) ∷ []);
  values = bindings
      ((codes "P", an_item (a_function 2) Public (Some (named_value 0 0))) ∷ [])
      ((named_value 0 0, stands_for.Def (a_function 2)) ∷ []);
  legacy_macros = (codes "mm", by_rules 0 ∷ []) ∷ [];
}

abbrev pub scope_of_a : Scope
scope_of_a = record no_scope {
  types = bindings
      ((codes "b", an_item (a_module 2) Public None)
      ∷ (codes "S", an_item (a_struct 1) (within 1 Implicit) None)
      ∷ (codes "Q", an_item (a_struct 1) Public (Some (named 1 0))) ∷ [])
      ((named 1 0, stands_for.Import (leaf 0 0)) ∷ []);
}

abbrev pub scope_of_c : Scope
scope_of_c = record no_scope {
  types = bindings
      ((codes "R", an_item (a_struct 1) Public (Some (named 2 0))) ∷ [])
      ((named 2 0, stands_for.Import (leaf 0 1)) ∷ []);
}

abbrev pub root_of_dep : Scope
root_of_dep = record no_scope {
  types = bindings ((codes "E", an_item (an_enum 4) Public None) ∷ []) [];
  values = bindings ((codes "hidden", an_item (a_function 3) (within 4 Implicit) None) ∷ []) [];
}

abbrev pub root_of_block : Scope
root_of_block = record no_scope {
  types = bindings ((codes "n", an_item (a_module 6) (within 5 Implicit) None) ∷ []) [];
  values = bindings ((codes "S", an_item (a_function 2) (within 5 Implicit) None) ∷ []) [];
}

abbrev pub map_of_a : Map
map_of_a = record (a_map (crate_id 0) Edition2021 0 None
    (module_with 0 None root_of_a
    ∷ module_with 1 (Some (number 0)) scope_of_a
    ∷ module_with 2 (Some (number 1)) no_scope
    ∷ module_with 3 (Some (number 0)) scope_of_c
    ∷ module_with 7 (Some (number 0)) (binds_types ((codes "x", an_item (a_struct 5) Public None) ∷ []))
    ∷ [])) { macro_use = (codes "mu", (by_rules 0, None)) ∷ [] }

abbrev pub map_of_block : Map
map_of_block = a_map (block_id 0 0) Edition2021 5 (Some (number 1)) (module_with 5 None root_of_block ∷ module_with 6 (Some (number 5)) no_scope ∷ [])

abbrev pub externs : LocalMap
externs = (codes "dep", (number 4, None)) ∷ []

abbrev pub world_a : World
world_a = record no_world {
  crate_maps = map_of_a ∷ a_map (crate_id 1) Edition2015 4 None (module_with 4 None root_of_dep ∷ []) ∷ [];
  block_maps =
      map_of_block
      ∷ a_map (block_id 0 1) Edition2021 8 (Some (number 0)) (module_with 8 None no_scope ∷ [])
      ∷ [];
  places =
      place (crate_id 0) 0 None
      ∷ place (crate_id 0) 1 (Some (number 0))
      ∷ place (crate_id 0) 2 (Some (number 1))
      ∷ place (crate_id 0) 3 (Some (number 0))
      ∷ place (crate_id 1) 0 None
      ∷ place (block_id 0 0) 0 None
      ∷ place (block_id 0 0) 1 (Some (number 5))
      ∷ place (crate_id 0) 4 (Some (number 0))
      ∷ place (block_id 0 1) 0 None
      ∷ [];
  local_maps = externs ∷ [] ∷ [];
  uses = number 0 ∷ number 1 ∷ number 3 ∷ [];
  items =
      (kind.Enum, number 0) ∷ (kind.Struct, number 1) ∷ (kind.Function, number 5) ∷ (kind.Function, number 4)
      ∷ (kind.Enum, number 4) ∷ (kind.Struct, number 7) ∷ [];
  enums = (record { 0 = 0 }, (codes "V", (record { 0 = 0 }, Tuple)) ∷ []) ∷ [];
  variants = record { 0 = 0 } ∷ [];
  macros = (number 0, MacroRules (Declarative (record { 0 = 1 }))) ∷ [];
}
