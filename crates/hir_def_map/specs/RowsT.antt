-- Examples: what each path resolves to, as equations that compute.
use Rattle.std.specs.Prelude.{◌≡◌, [], ◌∷◌, Some, None, false, codes, refl}
use Rattle.dm_base.specs.declared.builtin_type.BuiltinType.TheVariants as builtin
use Rattle.dm_base.specs.declared.builtin_type.BuiltinUint.TheVariants as uint
use Rattle.dm_base.specs.declared.mod_path.PathKind.TheVariants as kind
use Rattle.dm_base.specs.declared.visibility.Visibility.TheVariants.{Public}
use Rattle.dm_base.specs.declared.visibility.VisibilityExplicitness.TheVariants.{Implicit}
use Rattle.dm_def_map.specs.declared.modules.modes.BuiltinShadowMode.TheVariants as shadow
use Rattle.hir_def_map.specs.declared.path_resolution.result.ResolveMode.TheVariants as mode
use Rattle.hir_def_map.specs.declared.path_resolution.result.ReachedFixedPoint.TheVariants.{Yes, No}
use Rattle.hir_def_map.specs.Paths.{answer}
use Rattle.hir_def_map.specs.Written.{meaning, meant, said, an_item, a_module, a_struct, a_function, a_builtin, within}
use Rattle.hir_def_map.specs.WorldT.{world_t}

pub private_type_outside : meant world_t [] 0 kind.Crate (codes "a" ∷ codes "S" ∷ [])
    ≡ said None (Some (an_item (a_function 1) Public None)) None Yes None false false
unfolding answer
private_type_outside = refl

pub private_type_inside : meant world_t [] 1 kind.Crate (codes "a" ∷ codes "S" ∷ [])
    ≡ said (Some (an_item (a_struct 0) (within 1 Implicit) None)) (Some (an_item (a_function 1) Public None)) None Yes None false false
unfolding answer
private_type_inside = refl

pub private_type_of_a_name : meant world_t [] 1 kind.Plain (codes "S" ∷ [])
    ≡ said (Some (an_item (a_struct 0) (within 1 Implicit) None)) (Some (an_item (a_function 1) Public None)) None Yes None false false
unfolding answer
private_type_of_a_name = refl

pub left_at_a_struct : meant world_t [] 1 kind.Crate (codes "a" ∷ codes "S" ∷ codes "z" ∷ [])
    ≡ said (Some (an_item (a_struct 0) (within 1 Implicit) None)) None None Yes (Some 2) false false
unfolding answer
left_at_a_struct = refl

pub private_type_left : meant world_t [] 0 kind.Plain (codes "a" ∷ codes "S" ∷ codes "z" ∷ [])
    ≡ said None None None No None false false
unfolding answer
private_type_left = refl

pub module_before_builtin : meant world_t [] 0 kind.Plain (codes "u8" ∷ [])
    ≡ said (Some (an_item (a_module 2) Public None)) None None Yes None false false
unfolding answer
module_before_builtin = refl

pub builtin_before_module : meaning world_t [] 0 mode.Other shadow.Other None kind.Plain (codes "u8" ∷ [])
    ≡ said (Some (an_item (a_builtin (builtin.Uint uint.U8)) Public None)) None None Yes None false false
unfolding answer
builtin_before_module = refl

pub module_where_segments_follow : meaning world_t [] 0 mode.Other shadow.Other None kind.Plain (codes "u8" ∷ codes "x" ∷ [])
    ≡ said (Some (an_item (a_struct 0) Public None)) None None Yes None false false
unfolding answer
module_where_segments_follow = refl

pub crate_alone : meant world_t [] 0 kind.Crate []
    ≡ said (Some (an_item (a_module 0) Public None)) None None Yes None false false
unfolding answer
crate_alone = refl

pub no_segment : meant world_t [] 0 kind.Plain []
    ≡ said None None None Yes None false false
unfolding answer
no_segment = refl
