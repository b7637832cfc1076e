-- Examples: what a path resolves to in the origin alone, in preludes alone, and through crates that re-export each
-- other, as equations that compute.
use Rattle.std.specs.Prelude.{◌≡◌, [], ◌∷◌, Some, None, true, false, codes, refl}
use Rattle.dm_base.specs.declared.item_ids.ItemKind.TheVariants as item
use Rattle.dm_base.specs.declared.edition.Edition.TheVariants.{Edition2021}
use Rattle.dm_base.specs.declared.mod_path.PathKind.TheVariants as kind
use Rattle.dm_base.specs.declared.visibility.Visibility.TheVariants.{Public}
use Rattle.dm_base.specs.declared.visibility.VisibilityExplicitness.TheVariants.{Implicit}
use Rattle.dm_def_map.specs.declared.modules.modes.BuiltinShadowMode.TheVariants as shadow
use Rattle.dm_maps.specs.Build.{no_world}
use Rattle.dm_maps.specs.World.{World}
use Rattle.hir_def_map.specs.declared.path_resolution.result.ResolveMode.TheVariants as mode
use Rattle.hir_def_map.specs.declared.path_resolution.result.ReachedFixedPoint.TheVariants.{Yes, No}
use Rattle.hir_def_map.specs.declared.path_resolution.question.Ask.{Ask}
use Rattle.hir_def_map.specs.Paths.{answer, answer_alone, prelude_answer, asked}
use Rattle.hir_def_map.specs.Written.{meant, said, an_item, a_module, a_struct, a_function, by_rules, within, binds_types, crate_id, module_with, a_map, number, place}
use Rattle.hir_def_map.specs.WorldA.{world_a, externs}

abbrev plainly : Ask
plainly = asked (number 6) mode.Other shadow.Module None kind.Plain

-- single 5 other module any plain S
pub block_root_alone : answer_alone world_a externs (asked (number 5) mode.Other shadow.Module None kind.Plain) (codes "S" ∷ [])
    ≡ said None (Some (an_item (a_function 2) (within 5 Implicit) None)) None Yes None false false
unfolding answer_alone
block_root_alone = refl

-- the preludes of the crate, for a module of a block: a macro, a miss, and a miss with a segment left
pub preludes_macro : prelude_answer world_a externs (crate_id 0) plainly (codes "mu" ∷ [])
    ≡ said None None (Some (an_item (by_rules 0) Public None)) Yes None false false
unfolding prelude_answer
preludes_macro = refl

pub preludes_miss : prelude_answer world_a externs (crate_id 0) plainly (codes "nope" ∷ [])
    ≡ said None None None Yes None false false
unfolding prelude_answer
preludes_miss = refl

pub preludes_miss_before : prelude_answer world_a externs (crate_id 0) plainly (codes "nope" ∷ codes "y" ∷ [])
    ≡ said None None None No None false false
unfolding prelude_answer
preludes_miss_before = refl

-- and nothing for other paths than plain ones and those with `::`
pub preludes_of_crate : prelude_answer world_a externs (crate_id 0) (asked (number 6) mode.Other shadow.Module None kind.Crate) (codes "mu" ∷ [])
    ≡ said None None None Yes None false false
unfolding prelude_answer
preludes_of_crate = refl

-- two crates, each of which binds the root of the other
abbrev world_e : World
world_e = record no_world {
  crate_maps =
      a_map (crate_id 0) Edition2021 0 None (module_with 0 None (binds_types ((codes "b", an_item (a_module 1) Public None) ∷ (codes "S", an_item (a_struct 0) Public None) ∷ [])) ∷ [])
      ∷ a_map (crate_id 1) Edition2021 1 None (module_with 1 None (binds_types ((codes "a", an_item (a_module 0) Public None) ∷ [])) ∷ [])
      ∷ [];
  places = place (crate_id 0) 0 None ∷ place (crate_id 1) 0 None ∷ [];
  local_maps = [] ∷ [] ∷ [];
  items = (item.Struct, number 0) ∷ [];
}

pub through_crates : meant world_e [] 0 kind.Crate (codes "b" ∷ codes "a" ∷ codes "b" ∷ codes "a" ∷ codes "S" ∷ [])
    ≡ said (Some (an_item (a_struct 0) Public None)) None None Yes None true false
unfolding answer
through_crates = refl

pub through_crates_left : meant world_e [] 0 kind.Crate (codes "b" ∷ codes "a" ∷ codes "b" ∷ codes "a" ∷ codes "S" ∷ codes "z" ∷ [])
    ≡ said (Some (an_item (a_struct 0) Public None)) None None Yes (Some 5) true false
unfolding answer
through_crates_left = refl

pub through_crates_miss : meant world_e [] 0 kind.Crate (codes "b" ∷ codes "a" ∷ codes "b" ∷ codes "a" ∷ codes "Z" ∷ codes "z" ∷ [])
    ≡ said None None None Yes None true false
unfolding answer
through_crates_miss = refl
