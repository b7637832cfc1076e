-- Which ids are a world's, with their kinds; others dangle.
use Rattle.std.specs.Prelude.{nat_lt, Bool, false, IsTrue, List, length, slice_get}
use Rattle.std.specs.Option.{option_map_or}
use Rattle.std.specs.List.{AllByRecursion}
use Rattle.dm_maps.specs.declared.check.held.HeldId.{HeldId}
use Rattle.dm_maps.specs.declared.check.held.HeldId.TheVariants as held
use Rattle.dm_maps.specs.World.{World}
use Rattle.dm_maps.specs.Kinds.{same_kind, macro_number, is_of_kind}

-- whether an id is the world's, and what stands under it is of its kind
abbrev pub knows : World → HeldId → Bool
knows w (held.Module m) = nat_lt m.0 (length w.places)
knows w (held.Crate k) = nat_lt k.0 (length w.crate_maps)
knows w (held.Use u) = nat_lt u.0 (length w.uses)
knows w (held.Item k n) = option_map_or (λ i. same_kind k i.0) (slice_get w.items n) false
knows w (held.Variant v) = nat_lt v.0 (length w.variants)
knows w (held.Macro m) = option_map_or (λ e. is_of_kind m e.1) (slice_get w.macros (macro_number m)) false

abbrev pub KnowsAll : World → List HeldId → Type 0
KnowsAll w hs = AllByRecursion (λ h. IsTrue (knows w h)) hs
