-- Examples of shadowing: what each path resolves to, as equations that compute.
use Rattle.std.specs.Prelude.{◌≡◌, [], ◌∷◌, Some, None, false, codes, refl}
use Rattle.dm_base.specs.declared.mod_path.PathKind.TheVariants as kind
use Rattle.dm_base.specs.declared.visibility.Visibility.TheVariants.{Public}
use Rattle.dm_def_map.specs.declared.modules.modes.BuiltinShadowMode.TheVariants as shadow
use Rattle.dm_def_map.specs.declared.modules.modes.MacroSubNs.TheVariants.{Bang, Attr}
use Rattle.hir_def_map.specs.declared.path_resolution.result.ResolveMode.TheVariants as mode
use Rattle.hir_def_map.specs.declared.path_resolution.result.ReachedFixedPoint.TheVariants.{Yes}
use Rattle.hir_def_map.specs.Paths.{answer}
use Rattle.hir_def_map.specs.Written.{meaning, meant, said, an_item, a_struct, a_function, by_rules, named}
use Rattle.hir_def_map.specs.WorldS.{world_s}

-- a named import shadows a glob import: explicit names win over globs
pub glob_and_import : meant world_s [] 0 kind.Plain (codes "A" ∷ [])
    ≡ said (Some (an_item (a_struct 1) Public (Some (named 0 1)))) None None Yes None false false
unfolding answer
glob_and_import = refl

-- textual scope: of two legacy macros of one name the last shadows the first, where it fits
pub last_legacy : meaning world_s [] 0 mode.Other shadow.Module (Some Bang) kind.Plain (codes "mm" ∷ [])
    ≡ said None None (Some (an_item (by_rules 1) Public None)) Yes None false false
unfolding answer
last_legacy = refl

pub no_fitting_legacy : meaning world_s [] 0 mode.Other shadow.Module (Some Attr) kind.Plain (codes "mm" ∷ [])
    ≡ said None None None Yes None false false
unfolding answer
no_fitting_legacy = refl

-- from a block in a module of a block: the value of the inner block, the type of the module outside it, the macro of the crate's preludes
pub three_places : meant world_s [] 3 kind.Plain (codes "X" ∷ [])
    ≡ said (Some (an_item (a_struct 0) Public None)) (Some (an_item (a_function 2) Public None)) (Some (an_item (by_rules 0) Public None)) Yes None false false
unfolding answer
three_places = refl

-- the module outside it has no value, and the crate's root none of the three
pub two_places : meant world_s [] 2 kind.Plain (codes "X" ∷ [])
    ≡ said (Some (an_item (a_struct 0) Public None)) None (Some (an_item (by_rules 0) Public None)) Yes None false false
unfolding answer
two_places = refl

pub one_place : meant world_s [] 0 kind.Plain (codes "X" ∷ [])
    ≡ said None None (Some (an_item (by_rules 0) Public None)) Yes None false false
unfolding answer
one_place = refl
