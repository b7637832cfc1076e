-- Examples: what each path resolves to, as equations that compute. Rows that say one thing stand together.
use Rattle.std.specs.Prelude.{◌≡◌, [], ◌∷◌, Some, None, true, false, codes, refl}
use Rattle.dm_base.specs.declared.builtin_type.BuiltinType.TheVariants as builtin
use Rattle.dm_base.specs.declared.builtin_type.BuiltinUint.TheVariants as uint
use Rattle.dm_base.specs.declared.mod_path.PathKind.TheVariants.{DollarCrate, Super}
use Rattle.dm_base.specs.declared.mod_path.PathKind.TheVariants as kind
use Rattle.dm_base.specs.declared.visibility.Visibility.TheVariants.{Public}
use Rattle.dm_base.specs.declared.visibility.VisibilityExplicitness.TheVariants.{Implicit}
use Rattle.dm_def_map.specs.declared.modules.modes.BuiltinShadowMode.TheVariants as shadow
use Rattle.dm_def_map.specs.declared.modules.modes.MacroSubNs.TheVariants.{Bang, Attr}
use Rattle.hir_def_map.specs.declared.path_resolution.result.ResolveMode.TheVariants as mode
use Rattle.hir_def_map.specs.declared.path_resolution.result.ReachedFixedPoint.TheVariants.{Yes, No}
use Rattle.hir_def_map.specs.Paths.{answer}
use Rattle.hir_def_map.specs.Written.{meaning, meant, said, an_item, a_module, a_struct, a_function, an_enum, a_variant, a_builtin, by_rules, within}
use Rattle.hir_def_map.specs.WorldA.{world_a, externs}

pub nothing_asked :
    (meant world_a externs 0 kind.Plain [] ≡ said None None None Yes None false false)
    × (meant world_a externs 0 kind.Plain (codes "nope" ∷ []) ≡ said None None None Yes None false false)
    × (meant world_a externs 0 kind.Plain (codes "nope" ∷ codes "x" ∷ []) ≡ said None None None No None false false)
unfolding answer
nothing_asked = (refl, refl, refl)

pub enums :
    (meant world_a externs 0 kind.Crate (codes "E" ∷ codes "W" ∷ [])
    ≡ said (Some (an_item (an_enum 0) Public None)) None None Yes (Some 1) false false)
    × (meant world_a externs 0 kind.Crate (codes "E" ∷ codes "V" ∷ [])
    ≡ said (Some (an_item (a_variant 0) Public None)) (Some (an_item (a_variant 0) Public None)) None Yes None false true)
    × (meant world_a externs 0 kind.Crate (codes "E" ∷ codes "V" ∷ codes "z" ∷ []) ≡ said None None None No None false false)
unfolding answer
enums = (refl, refl, refl)

pub builtins :
    (meant world_a externs 0 kind.Plain (codes "u8" ∷ []) ≡ said (Some (an_item (a_module 7) Public None)) None None Yes None false false)
    × (meaning world_a externs 0 mode.Other shadow.Other None kind.Plain (codes "u8" ∷ [])
    ≡ said (Some (an_item (a_builtin (builtin.Uint uint.U8)) Public None)) None None Yes None false false)
    × (meaning world_a externs 0 mode.Other shadow.Other None kind.Plain (codes "u8" ∷ codes "x" ∷ [])
    ≡ said (Some (an_item (a_struct 5) Public None)) None None Yes None false false)
unfolding answer
builtins = (refl, refl, refl)

pub supers :
    (meant world_a externs 0 (Super 1) (codes "x" ∷ []) ≡ said None None None Yes None false false)
    × (meant world_a externs 8 (Super 1) (codes "x" ∷ []) ≡ said None None None Yes None false false)
    × (meant world_a externs 6 (Super 1) (codes "S" ∷ [])
    ≡ said (Some (an_item (a_struct 1) (within 1 Implicit) None)) None None Yes None false false)
unfolding answer
supers = (refl, refl, refl)

pub blocks :
    (meant world_a externs 5 kind.Plain (codes "S" ∷ [])
    ≡ said (Some (an_item (a_struct 1) (within 1 Implicit) None)) (Some (an_item (a_function 2) (within 5 Implicit) None)) None Yes None false false)
    × (meant world_a externs 6 kind.Plain (codes "S" ∷ []) ≡ said None None None Yes None false false)
    × (meant world_a externs 5 kind.Plain (codes "u8" ∷ [])
    ≡ said (Some (an_item (a_builtin (builtin.Uint uint.U8)) Public None)) None None Yes None false false)
    × (meant world_a externs 6 kind.Plain (codes "u8" ∷ []) ≡ said None None None Yes None false false)
unfolding answer
blocks = (refl, refl, refl, refl)

pub prelude_places :
    (meant world_a externs 0 kind.Crate (codes "nope" ∷ codes "y" ∷ []) ≡ said None None None No None false false)
    × (meant world_a externs 6 kind.Crate (codes "nope" ∷ codes "y" ∷ []) ≡ said None None None Yes None false false)
unfolding answer
prelude_places = (refl, refl)

pub other_crates :
    (meant world_a externs 0 kind.Plain (codes "dep" ∷ codes "hidden" ∷ [])
    ≡ said None (Some (an_item (a_function 3) (within 4 Implicit) None)) None Yes None true false)
    × (meant world_a externs 0 kind.Plain (codes "dep" ∷ codes "E" ∷ codes "W" ∷ [])
    ≡ said (Some (an_item (an_enum 4) Public None)) None None Yes (Some 2) true false)
    × (meant world_a externs 0 kind.Plain (codes "dep" ∷ codes "nope" ∷ codes "x" ∷ []) ≡ said None None None Yes None true false)
unfolding answer
other_crates = (refl, refl, refl)

pub absolute :
    (meant world_a externs 0 kind.Abs (codes "dep" ∷ []) ≡ said (Some (an_item (a_module 4) Public None)) None None Yes None false false)
    × (meant world_a externs 0 kind.Abs (codes "nodep" ∷ []) ≡ said None None None No None false false)
    × (meant world_a [] 4 kind.Abs (codes "E" ∷ []) ≡ said (Some (an_item (an_enum 4) Public None)) None None Yes None false false)
    × (meant world_a [] 4 kind.Abs (codes "nodep" ∷ []) ≡ said None None None Yes None false false)
    × (meaning world_a [] 4 mode.Import shadow.Module None kind.Plain (codes "u8" ∷ []) ≡ said None None None Yes None false false)
    × (meant world_a [] 4 kind.Plain (codes "u8" ∷ [])
    ≡ said (Some (an_item (a_builtin (builtin.Uint uint.U8)) Public None)) None None Yes None false false)
unfolding answer
absolute = (refl, refl, refl, refl, refl, refl)

pub macros :
    (meaning world_a externs 0 mode.Other shadow.Module (Some Bang) kind.Plain (codes "mm" ∷ [])
    ≡ said None None (Some (an_item (by_rules 0) Public None)) Yes None false false)
    × (meaning world_a externs 0 mode.Other shadow.Module (Some Attr) kind.Plain (codes "mm" ∷ [])
    ≡ said None None None Yes None false false)
    × (meant world_a externs 0 kind.Crate (codes "mm" ∷ []) ≡ said None None None Yes None false false)
    × (meaning world_a externs 0 mode.Other shadow.Module (Some Attr) kind.Plain (codes "mu" ∷ [])
    ≡ said None None (Some (an_item (by_rules 0) Public None)) Yes None false false)
    × (meant world_a externs 6 kind.Plain (codes "mu" ∷ []) ≡ said None None (Some (an_item (by_rules 0) Public None)) Yes None false false)
unfolding answer
macros = (refl, refl, refl, refl, refl)

pub seen :
    (meant world_a externs 3 kind.Crate (codes "a" ∷ codes "S" ∷ []) ≡ said None None None Yes None false false)
    × (meant world_a externs 2 kind.Crate (codes "a" ∷ codes "S" ∷ [])
    ≡ said (Some (an_item (a_struct 1) (within 1 Implicit) None)) None None Yes None false false)
unfolding answer
seen = (refl, refl)

pub dollar :
    (meant world_a externs 0 (DollarCrate (record { 0 = 1 })) (codes "hidden" ∷ [])
    ≡ said None (Some (an_item (a_function 3) (within 4 Implicit) None)) None Yes None true false)
    × (meant world_a externs 0 (DollarCrate (record { 0 = 1 })) []
    ≡ said (Some (an_item (a_module 4) Public None)) None None Yes None false false)
unfolding answer
dollar = (refl, refl)

pub more_supers :
    (meant world_a externs 1 (Super 0) (codes "S" ∷ [])
    ≡ said (Some (an_item (a_struct 1) (within 1 Implicit) None)) None None Yes None false false)
    × (meant world_a externs 2 (Super 1) (codes "S" ∷ [])
    ≡ said (Some (an_item (a_struct 1) (within 1 Implicit) None)) None None Yes None false false)
    × (meant world_a externs 2 (Super 3) (codes "S" ∷ []) ≡ said None None None Yes None false false)
    × (meant world_a externs 5 (Super 0) (codes "S" ∷ [])
    ≡ said (Some (an_item (a_struct 1) (within 1 Implicit) None)) None None Yes None false false)
unfolding answer
more_supers = (refl, refl, refl, refl)

pub from_blocks :
    (meant world_a externs 6 kind.Plain (codes "dep" ∷ codes "hidden" ∷ [])
    ≡ said None (Some (an_item (a_function 3) (within 4 Implicit) None)) None Yes None true false)
    × (meant world_a externs 8 kind.Plain (codes "dep" ∷ codes "hidden" ∷ [])
    ≡ said None (Some (an_item (a_function 3) (within 4 Implicit) None)) None Yes None true false)
unfolding answer
from_blocks = (refl, refl)
