-- Examples of the two versions of the rules: which macros of preludes are found, as equations that compute.
use Rattle.std.specs.Prelude.{◌≡◌, [], ◌∷◌, Some, None, false, codes, refl}
use Rattle.dm_base.specs.declared.mod_path.PathKind.TheVariants as kind
use Rattle.dm_base.specs.declared.visibility.Visibility.TheVariants.{Public}
use Rattle.dm_def_map.specs.declared.modules.modes.BuiltinShadowMode.TheVariants as shadow
use Rattle.dm_def_map.specs.declared.modules.modes.MacroSubNs.TheVariants.{Bang, Attr}
use Rattle.hir_def_map.specs.declared.path_resolution.result.ResolveMode.TheVariants as mode
use Rattle.hir_def_map.specs.declared.path_resolution.result.ReachedFixedPoint.TheVariants.{Yes}
use Rattle.hir_def_map.specs.Paths.{answer}
use Rattle.hir_def_map.specs.Written.{meaning, meant, said, an_item, by_rules, procedural}
use Rattle.hir_def_map.specs.WorldA.{world_a, externs}
use Rattle.hir_def_map.specs.WorldP.{world_p, second}

-- path 0 other module attr plain mu, in the world without a prelude module
pub macro_use_attr_first : meaning world_a externs 0 mode.Other shadow.Module (Some Attr) kind.Plain (codes "mu" ∷ [])
    ≡ said None None (Some (an_item (by_rules 0) Public None)) Yes None false false
unfolding answer
macro_use_attr_first = refl

pub macro_use_attr_second : meaning (second world_a) externs 0 mode.Other shadow.Module (Some Attr) kind.Plain (codes "mu" ∷ [])
    ≡ said None None None Yes None false false
unfolding answer
macro_use_attr_second = refl

pub macro_use_bang_first : meaning world_a externs 0 mode.Other shadow.Module (Some Bang) kind.Plain (codes "mu" ∷ [])
    ≡ said None None (Some (an_item (by_rules 0) Public None)) Yes None false false
unfolding answer
macro_use_bang_first = refl

pub macro_use_bang_second : meaning (second world_a) externs 0 mode.Other shadow.Module (Some Bang) kind.Plain (codes "mu" ∷ [])
    ≡ said None None (Some (an_item (by_rules 0) Public None)) Yes None false false
unfolding answer
macro_use_bang_second = refl

-- path 6 other module attr plain mu, at the prelude place
pub prelude_place_attr_first : meaning world_a externs 6 mode.Other shadow.Module (Some Attr) kind.Plain (codes "mu" ∷ [])
    ≡ said None None (Some (an_item (by_rules 0) Public None)) Yes None false false
unfolding answer
prelude_place_attr_first = refl

pub prelude_place_attr_second : meaning (second world_a) externs 6 mode.Other shadow.Module (Some Attr) kind.Plain (codes "mu" ∷ [])
    ≡ said None None None Yes None false false
unfolding answer
prelude_place_attr_second = refl

pub prelude_place_any_first : meant world_a externs 6 kind.Plain (codes "mu" ∷ [])
    ≡ said None None (Some (an_item (by_rules 0) Public None)) Yes None false false
unfolding answer
prelude_place_any_first = refl

pub prelude_place_any_second : meant (second world_a) externs 6 kind.Plain (codes "mu" ∷ [])
    ≡ said None None (Some (an_item (by_rules 0) Public None)) Yes None false false
unfolding answer
prelude_place_any_second = refl

-- path 0 other module attr plain pm, in the world with a prelude module
pub prelude_attr_first : meaning world_p externs 0 mode.Other shadow.Module (Some Attr) kind.Plain (codes "pm" ∷ [])
    ≡ said None None (Some (an_item (by_rules 0) Public None)) Yes None false false
unfolding answer
prelude_attr_first = refl

pub prelude_attr_second : meaning (second world_p) externs 0 mode.Other shadow.Module (Some Attr) kind.Plain (codes "pm" ∷ [])
    ≡ said None None None Yes None false false
unfolding answer
prelude_attr_second = refl

-- path 0 other module attr plain mu: the attribute of the prelude module, where the function does not fit
pub prelude_behind_macro_use_first : meaning world_p externs 0 mode.Other shadow.Module (Some Attr) kind.Plain (codes "mu" ∷ [])
    ≡ said None None (Some (an_item (by_rules 0) Public None)) Yes None false false
unfolding answer
prelude_behind_macro_use_first = refl

pub prelude_behind_macro_use_second : meaning (second world_p) externs 0 mode.Other shadow.Module (Some Attr) kind.Plain (codes "mu" ∷ [])
    ≡ said None None (Some (an_item (procedural 1) Public None)) Yes None false false
unfolding answer
prelude_behind_macro_use_second = refl
