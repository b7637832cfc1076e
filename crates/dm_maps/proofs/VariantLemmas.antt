-- Where adding a variant finds no fault.
use Rattle.std.proofs.Common.{◌≡◌, ◌<◌, Bool, not, true, false, true≢false, is_some, Option, Some, None, length, refl}
use Rattle.dm_maps.proofs.Ids.{EnumId, Name, find_name}
use Rattle.dm_maps.specs.declared.build_fault.BuildFault.TheVariants.{NoSuchEnum, TakenVariant, OutOfNumbers}
use Rattle.dm_maps.specs.Faults.{is_full}
use Rattle.dm_maps.specs.ItemFaults.{variant_fault, lacks_enum, has_variant}
use Rattle.dm_base.specs.declared.item_ids.ItemKind.TheVariants as item
use Rattle.dm_maps.specs.declared.check.held.HeldId.TheVariants as held
use Rattle.dm_maps.specs.Known.{knows}
use Rattle.dm_maps.specs.Lists.{IsEnum}
use Rattle.dm_maps.specs.World.{World}
use Rattle.dm_maps.specs.Readings.{variants_of}
use Rattle.dm_maps.proofs.FaultLemmas.{skipped, below}

none-by : {X : Type 0} (o : Option X) → is_some o ≡ false → o ≡ None
none-by None g = refl
none-by (Some x) g = absurd (true≢false g)

lacks-none : (b : Bool) → not b ≡ false → b ≡ true
lacks-none true h = refl
lacks-none false h = absurd (true≢false h)

-- where adding a variant finds no fault, its enum is one, its name is free there, and there is a number for it
pub variant_fault-none : (w : World) (e : EnumId) (n : Name) → variant_fault w e n ≡ None → (find_name n (variants_of w e) ≡ None) × (length w.variants < 4294967295) × IsEnum w.items e
unfolding variant_fault
variant_fault-none w e n h =
    let a = skipped (lacks_enum w e) NoSuchEnum _ h in
    let b = skipped (has_variant w e n) TakenVariant _ a.1 in
    let c = skipped (is_full w.variants) OutOfNumbers _ b.1 in
    (none-by (find_name n (variants_of w e)) b.0, below (length w.variants) 4294967295 c.0, lacks-none (knows w (held.Item item.Enum e.0)) a.0)
