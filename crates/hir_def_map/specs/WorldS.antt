-- An example world of shadowing: a glob and a named import of one name, legacy macros of one name, and nested blocks.
use Rattle.std.specs.Prelude.{[], ◌∷◌, Some, None, codes}
use Rattle.dm_base.specs.declared.macros.MacroExpander.TheVariants.{Declarative}
use Rattle.dm_base.specs.declared.macros.MacroLoc.TheVariants.{MacroRules}
use Rattle.dm_base.specs.declared.item_ids.ItemKind.TheVariants as kind
use Rattle.dm_base.specs.declared.per_ns.PerNs.{PerNs}
use Rattle.dm_base.specs.declared.item_ids.ModuleDefId.{ModuleDefId}
use Rattle.dm_base.specs.declared.edition.Edition.TheVariants.{Edition2021}
use Rattle.dm_base.specs.declared.visibility.Visibility.TheVariants.{Public}
use Rattle.dm_scope.specs.Flags.{Globs, no_globs}
use Rattle.dm_scope.specs.Push.{scope_after, globs_after}
use Rattle.dm_scope.specs.Scope.{Scope, no_scope}
use Rattle.dm_maps.specs.Build.{no_world}
use Rattle.dm_def_map.specs.Maps.{Map}
use Rattle.dm_maps.specs.World.{World}
use Rattle.hir_def_map.specs.Written.{a_struct, a_function, by_rules, glob, named, an_item, crate_id, block_id, number, place, bindings, binds_types, module_with, a_map}

abbrev pub a_type : ModuleDefId → PerNs
a_type d = record { types = Some (an_item d Public None); values = None; macros = None }

-- A by a glob, and then A by a named import
abbrev by_glob : Scope
by_glob = scope_after no_scope no_globs (number 0) (codes "A") (a_type (a_struct 0)) (Some (glob 0 0))

abbrev globs_by_glob : Globs
globs_by_glob = globs_after no_scope no_globs (number 0) (codes "A") (a_type (a_struct 0)) (Some (glob 0 0))

abbrev by_both : Scope
by_both = scope_after by_glob globs_by_glob (number 0) (codes "A") (a_type (a_struct 1)) (Some (named 0 1))

-- two macros `mm`, one behind the other
abbrev pub root_scope : Scope
root_scope = record by_both {
  legacy_macros = (codes "mm", by_rules 0 ∷ by_rules 1 ∷ []) ∷ [];
}

-- X as a type in a module of a block, and as a value in the root of a block inside it
abbrev pub outer_scope : Scope
outer_scope = binds_types ((codes "X", an_item (a_struct 0) Public None) ∷ [])

abbrev pub inner_scope : Scope
inner_scope = record no_scope { values = bindings ((codes "X", an_item (a_function 2) Public None) ∷ []) [] }

-- X as a macro in the macro_use prelude of the crate
abbrev pub crate_map : Map
crate_map = record (a_map (crate_id 0) Edition2021 0 None (module_with 0 None root_scope ∷ [])) { macro_use = (codes "X", (by_rules 0, None)) ∷ [] }

abbrev pub world_s : World
world_s = record no_world {
  crate_maps = crate_map ∷ [];
  block_maps =
      a_map (block_id 0 0) Edition2021 1 (Some (number 0)) (module_with 1 None no_scope ∷ module_with 2 (Some (number 1)) outer_scope ∷ [])
      ∷ a_map (block_id 0 1) Edition2021 3 (Some (number 2)) (module_with 3 None inner_scope ∷ [])
      ∷ [];
  places =
      place (crate_id 0) 0 None
      ∷ place (block_id 0 0) 0 None
      ∷ place (block_id 0 0) 1 (Some (number 1))
      ∷ place (block_id 0 1) 0 None
      ∷ [];
  local_maps = [] ∷ [];
  uses = number 0 ∷ [];
  items = (kind.Struct, number 0) ∷ (kind.Struct, number 0) ∷ (kind.Function, number 0) ∷ [];
  enums = [];
  variants = [];
  macros = (number 0, MacroRules (Declarative (record { 0 = 1 }))) ∷ (number 0, MacroRules (Declarative (record { 0 = 1 }))) ∷ [];
}
