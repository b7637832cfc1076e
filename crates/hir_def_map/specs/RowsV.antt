-- Examples: what raw visibilities resolve to, as equations that compute.
use Rattle.std.specs.Prelude.{◌≡◌, [], ◌∷◌, Some, true, false, codes, refl}
use Rattle.dm_base.specs.declared.mod_path.PathKind.TheVariants as kind
use Rattle.dm_base.specs.declared.visibility.RawVisibility.TheVariants as raw
use Rattle.dm_base.specs.declared.visibility.Visibility.TheVariants.{Public}
use Rattle.dm_base.specs.declared.visibility.VisibilityExplicitness.TheVariants.{Explicit, Implicit}
use Rattle.hir_def_map.specs.Paths.{answer}
use Rattle.hir_def_map.specs.RawVisibilities.{raw_visibility, visibilities_in}
use Rattle.hir_def_map.specs.WorldA.{world_a, externs, map_of_block}
use Rattle.hir_def_map.specs.Written.{number, within, within_crate}

-- `pub(in crate)` in module 6, which lies in a block: the crate's root is in another map, so the block's root replaces
-- it
pub outside_an_impl : raw_visibility world_a externs map_of_block (number 6) false (raw.Module (record { kind = kind.Crate; segments = [] }) Explicit)
    ≡ Some (within 5 Explicit)
unfolding answer
outside_an_impl = refl

-- the same within an `impl`
pub within_an_impl : raw_visibility world_a externs map_of_block (number 6) true (raw.Module (record { kind = kind.Crate; segments = [] }) Explicit)
    ≡ Some (within 0 Explicit)
unfolding answer
within_an_impl = refl

-- the fields of a struct in module 1: `pub`, none written, `pub(crate)`, `pub(in crate::c)`, `pub(in crate::nope)`
pub of_fields : visibilities_in world_a (number 1)
    (raw.Public
    ∷ raw.PubSelf Implicit
    ∷ raw.PubCrate
    ∷ raw.Module (record { kind = kind.Crate; segments = codes "c" ∷ [] }) Explicit
    ∷ raw.Module (record { kind = kind.Crate; segments = codes "nope" ∷ [] }) Explicit
    ∷ [])
    ≡ Public ∷ within 1 Implicit ∷ within_crate 0 ∷ within 3 Explicit ∷ Public ∷ []
unfolding answer
of_fields = refl
