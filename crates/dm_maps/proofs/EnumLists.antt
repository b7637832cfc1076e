-- The variants that an enum of a checked world lists are its own.
use Rattle.std.proofs.Common.{◌≡◌, Some, slice_get, IsTrue, length}
use Rattle.std.proofs.lemmas.Bool.{lt-ltb}
use Rattle.std.proofs.lemmas.Option.{slice_get_within}
use Rattle.dm_base.specs.declared.fields_shape.FieldsShape.{FieldsShape}
use Rattle.dm_base.specs.declared.ids.EnumId.{EnumId}
use Rattle.dm_base.specs.declared.ids.EnumVariantId.{EnumVariantId}
use Rattle.dm_base.specs.Names.{Name}
use Rattle.dm_maps.specs.declared.check.held.HeldId.TheVariants as held
use Rattle.dm_maps.specs.GoesOn.{AreKnown, AreVariantsOf}
use Rattle.dm_maps.specs.Known.{knows}
use Rattle.dm_maps.specs.Lists.{AreListed, IsListed}
use Rattle.dm_maps.specs.Readings.{variants_of}
use Rattle.dm_maps.specs.World.{World}
use Rattle.dm_maps.proofs.AllLemmas.{all-weaker}
use Rattle.dm_maps.proofs.ListLemmas.{variants_in-own}

abbrev Variant : Type 0
Variant = Name × (EnumVariantId × FieldsShape)

module _ (w : World) (h : IsListed w) (e : EnumId) where
  pub variants-own : AreVariantsOf w e (variants_of w e)
  unfolding AreListed
  variants-own = variants_in-own w.variants w.enums e h.1.own

  pub variants-known : AreKnown w (variants_of w e)
  variants-known =
      all-weaker (λ (v : Variant). slice_get w.variants v.1.0.0 ≡ Some e) (λ (v : Variant). IsTrue (knows w (held.Variant v.1.0)))
      (λ v at. lt-ltb v.1.0.0 (length w.variants) (slice_get_within w.variants v.1.0.0 e at)) (variants_of w e) variants-own
