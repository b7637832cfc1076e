-- What holds where a builder call finds no fault.
use Rattle.std.proofs.Common.{◌≡◌, ◌<◌, ℕ, Bool, true, false, cond, not, Option, Some, None, length, refl}
use Rattle.std.specs.Prelude.{nat_lt}
use Rattle.std.proofs.lemmas.Bool.{ltb-true}
use Rattle.dm_maps.proofs.Ids.{ModuleId, Name}
use Rattle.dm_maps.specs.declared.build_fault.BuildFault.{BuildFault}
use Rattle.dm_maps.specs.declared.build_fault.BuildFault.TheVariants.{NoSuchModule, TakenChild, OutOfNumbers}
use Rattle.dm_maps.specs.World.{World}
use Rattle.dm_maps.specs.Faults.{child_fault, lacks_module, has_child, is_full}

-- there is no fault only where no test is true
pub skipped : (b : Bool) (x : BuildFault) (r : Option BuildFault) → cond b (Some x) r ≡ None → (b ≡ false) × (r ≡ None)
skipped true x r h = cc
skipped false x r h = (refl, h)

pub below : (a b : ℕ) → not (nat_lt a b) ≡ false → a < b
below a b h = ltb-true a b (by (nat_lt a b) h)
  where
    by : (t : Bool) → not t ≡ false → t ≡ true
    by true g = refl
    by false g = cc

pub child_fault-none : (w : World) (m : ModuleId) (n : Name) → child_fault w m n ≡ None → (m.0 < length w.places) × (length w.places < 4294967295)
unfolding child_fault
child_fault-none w m n h =
    let a = skipped (lacks_module w m) NoSuchModule _ h in
    let b = skipped (has_child w m n) TakenChild _ a.1 in
    let c = skipped (is_full w.places) OutOfNumbers _ b.1 in
    (below m.0 (length w.places) a.0, below (length w.places) 4294967295 c.0)
