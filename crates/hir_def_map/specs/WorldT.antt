-- An example world of one crate.
use Rattle.std.specs.Prelude.{[], ◌∷◌, Some, None, codes}
use Rattle.dm_base.specs.declared.item_ids.ItemKind.TheVariants as kind
use Rattle.dm_base.specs.declared.edition.Edition.TheVariants.{Edition2021}
use Rattle.dm_base.specs.declared.visibility.Visibility.TheVariants.{Public}
use Rattle.dm_base.specs.declared.visibility.VisibilityExplicitness.TheVariants.{Implicit}
use Rattle.dm_scope.specs.Scope.{Scope, no_scope}
use Rattle.dm_maps.specs.Build.{no_world}
use Rattle.dm_maps.specs.World.{World}
use Rattle.hir_def_map.specs.Written.{a_module, a_struct, a_function, within, an_item, crate_id, number, place, bindings, binds_types, module_with, a_map}

abbrev pub scope_of_a : Scope
scope_of_a = record no_scope {
  types = bindings ((codes "S", an_item (a_struct 0) (within 1 Implicit) None) ∷ []) [];
  values = bindings ((codes "S", an_item (a_function 1) Public None) ∷ []) [];
}

abbrev pub world_t : World
world_t = record no_world {
  crate_maps = a_map (crate_id 0) Edition2021 0 None
      (module_with 0 None (binds_types ((codes "a", an_item (a_module 1) Public None) ∷ (codes "u8", an_item (a_module 2) Public None) ∷ []))
      ∷ module_with 1 (Some (number 0)) scope_of_a
      ∷ module_with 2 (Some (number 0)) (binds_types ((codes "x", an_item (a_struct 0) Public None) ∷ []))
      ∷ []) ∷ [];
  block_maps = [];
  places = place (crate_id 0) 0 None ∷ place (crate_id 0) 1 (Some (number 0)) ∷ place (crate_id 0) 2 (Some (number 0)) ∷ [];
  local_maps = [] ∷ [];
  uses = [];
  items = (kind.Struct, number 1) ∷ (kind.Function, number 0) ∷ [];
  enums = [];
  variants = [];
  macros = [];
}
