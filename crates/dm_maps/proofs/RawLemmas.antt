-- What the tables of a checked world hold of visibilities as they are written is the world's.
use Rattle.std.proofs.Common.{◌≡◌, List, ◌++◌, Some, IsTrue}
use Rattle.std.specs.List.{AllByRecursion, flat_map}
use Rattle.dm_maps.proofs.Ids.{AssocItemId, ItemContainerId, TraitId, VariantId}
use Rattle.dm_base.specs.declared.visibility.RawVisibility.{RawVisibility}
use Rattle.dm_maps.specs.declared.check.held.HeldId.{HeldId}
use Rattle.dm_maps.specs.TablesHold.{raw_holds, container_holds, field_list_holds, assoc_holds, trait_holds}
use Rattle.dm_maps.specs.World.{World}
use Rattle.dm_maps.specs.Known.{knows, KnowsAll}
use Rattle.dm_maps.specs.First.{IsChecked}
use Rattle.dm_maps.specs.RawTables.{fields_in, assoc_in, trait_visibility_in}
use Rattle.dm_maps.proofs.SoundLemmas.{fine_tables}
use Rattle.dm_maps.proofs.AllLemmas.{all-left, all-right, all-weaker, all-flat_map, found}

module _ (w : World) (checked : IsChecked w) where
  abbrev Known : HeldId → Type 0
  Known h = IsTrue (knows w h)

  abbrev of_fields : List HeldId
  of_fields = flat_map field_list_holds w.item_tables.fields

  abbrev of_assocs : List HeldId
  of_assocs = flat_map assoc_holds w.item_tables.assocs

  abbrev of_traits : List HeldId
  of_traits = flat_map trait_holds w.item_tables.traits

  pub fields-known : (v : VariantId) (fields : List RawVisibility) → fields_in w v ≡ Some fields → AllByRecursion (λ r. KnowsAll w (raw_holds r)) fields
  fields-known v fields e =
      let all = all-flat_map Known field_list_holds w.item_tables.fields (all-left Known of_fields (of_assocs ++ of_traits) (fine_tables w checked)) in
      let P : List RawVisibility → Type 0 = λ rs. AllByRecursion (λ r. KnowsAll w (raw_holds r)) rs in
      found P _ w.item_tables.fields fields
      (all-weaker (λ (x : VariantId × List RawVisibility). KnowsAll w (field_list_holds x)) (λ (x : VariantId × List RawVisibility). P x.1) (λ x h. all-flat_map Known raw_holds x.1 h.1) w.item_tables.fields all) e

  assocs-known : AllByRecursion (λ (x : AssocItemId × (ItemContainerId × RawVisibility)). KnowsAll w (container_holds x.1.0 ++ raw_holds x.1.1)) w.item_tables.assocs
  assocs-known =
      let all = all-flat_map Known assoc_holds w.item_tables.assocs (all-left Known of_assocs of_traits (all-right Known of_fields (of_assocs ++ of_traits) (fine_tables w checked))) in
      all-weaker (λ (x : AssocItemId × (ItemContainerId × RawVisibility)). KnowsAll w (assoc_holds x)) (λ (x : AssocItemId × (ItemContainerId × RawVisibility)). KnowsAll w (container_holds x.1.0 ++ raw_holds x.1.1)) (λ x h. h.1) w.item_tables.assocs all

  assoc-known : (a : AssocItemId) (x : ItemContainerId × RawVisibility) → assoc_in w a ≡ Some x → KnowsAll w (container_holds x.0 ++ raw_holds x.1)
  assoc-known a x e = found (λ (y : ItemContainerId × RawVisibility). KnowsAll w (container_holds y.0 ++ raw_holds y.1)) _ w.item_tables.assocs x assocs-known e

  pub container-known : (a : AssocItemId) (x : ItemContainerId × RawVisibility) → assoc_in w a ≡ Some x → KnowsAll w (container_holds x.0)
  container-known a x e = all-left Known (container_holds x.0) (raw_holds x.1) (assoc-known a x e)

  pub raw-known : (a : AssocItemId) (x : ItemContainerId × RawVisibility) → assoc_in w a ≡ Some x → KnowsAll w (raw_holds x.1)
  raw-known a x e = all-right Known (container_holds x.0) (raw_holds x.1) (assoc-known a x e)

  pub trait-known : (t : TraitId) (r : RawVisibility) → trait_visibility_in w t ≡ Some r → KnowsAll w (raw_holds r)
  trait-known t r e =
      let all = all-flat_map Known trait_holds w.item_tables.traits (all-right Known of_assocs of_traits (all-right Known of_fields (of_assocs ++ of_traits) (fine_tables w checked))) in
      found (λ (x : RawVisibility). KnowsAll w (raw_holds x)) _ w.item_tables.traits r
      (all-weaker (λ (x : TraitId × RawVisibility). KnowsAll w (trait_holds x)) (λ (x : TraitId × RawVisibility). KnowsAll w (raw_holds x.1)) (λ x h. h.1) w.item_tables.traits all) e
