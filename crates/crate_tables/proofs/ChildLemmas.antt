-- What the answer of adding a child tells of its parent.
use Rattle.std.proofs.Common.{◌≡◌, Bool, true, false, cond, not, Option, Some, None, ◌∙◌, ap, refl}
use Rattle.std.specs.Prelude.{Ok, Err, IsTrue}
use Rattle.dm_base.specs.Names.{Name}
use Rattle.dm_base.specs.declared.ids.ModuleId.{ModuleId}
use Rattle.dm_maps.specs.declared.check.held.HeldId.TheVariants as held
use Rattle.dm_maps.specs.Faults.{Answers, child_fault, has_child, is_full, lacks_module}
use Rattle.dm_maps.specs.Known.{knows}
use Rattle.dm_maps.specs.World.{World}
use Rattle.dm_maps.specs.declared.build_fault.BuildFault.{BuildFault}
use Rattle.dm_maps.specs.declared.build_fault.BuildFault.TheVariants.{NoSuchModule, TakenChild, OutOfNumbers}
use Rattle.crate_tables.proofs.MoreSteps.{full-least, module-past, short-memory}
use Rattle.crate_tables.specs.CrateMaps.{child_world}
use Rattle.crate_tables.specs.Numbers.{has_too_many, is_shortage}
use Rattle.dm_base.specs.declared.visibility.Visibility.{Visibility}
use Rattle.dm_def_map.specs.declared.modules.module_origin.ModuleOrigin.{ModuleOrigin}
use Rattle.dm_maps.specs.Build.{with_module}

by-tests : (w : World) (m : ModuleId) (n : Name) → child_fault w m n ≡ cond (lacks_module w m) (Some NoSuchModule) (cond (has_child w m n) (Some TakenChild) (cond (is_full w.places) (Some OutOfNumbers) None))
unfolding child_fault
by-tests w m n = refl

-- a child was added: its name was free
pub added-free : (w : World) (m : ModuleId) (n : Name) {A : Type 0} (x : A) → Answers (child_fault w m n) (Ok x) → has_child w m n ≡ false
added-free w m n {A} x h = by (lacks_module w m) (has_child w m n) (is_full w.places) (child_fault w m n) (by-tests w m n) h
  where
    by : (a b c : Bool) (o : Option BuildFault) → o ≡ cond a (Some NoSuchModule) (cond b (Some TakenChild) (cond c (Some OutOfNumbers) None)) → Answers {A = A} o (Ok x) → b ≡ false
    by a false c o e h = refl
    by a true c (Some f) e h = cc
    by true true c None e h = cc
    by false true c None e h = cc

-- its name was refused: it was taken
pub refused-taken : (A : Type 0) (w : World) (m : ModuleId) (n : Name) → Answers {A = A} (child_fault w m n) (Err TakenChild) → has_child w m n ≡ true
refused-taken A w m n h = by (lacks_module w m) (has_child w m n) (is_full w.places) (child_fault w m n) (by-tests w m n) h
  where
    by : (a b c : Bool) (o : Option BuildFault) → o ≡ cond a (Some NoSuchModule) (cond b (Some TakenChild) (cond c (Some OutOfNumbers) None)) → Answers {A = A} o (Err TakenChild) → b ≡ true
    by a true c o e h = refl
    by a false c None e h = cc
    by true false c (Some f) e h = cc
    by false false true (Some f) e h = cc
    by false false false (Some f) e h = cc

-- another refusal, below a module that is there: memory or numbers ran out
pub refused-short : (A : Type 0) (w : World) (m : ModuleId) (n : Name) (origin : ModuleOrigin) (v : Visibility) (f : BuildFault) → IsTrue (knows w (held.Module m)) → Answers {A = A} (child_fault w m n) (Err f) → (f ≡ TakenChild → ⊥)
    → is_shortage (has_too_many (child_world w m n origin v)) f ≡ true
refused-short A w m n origin v f k h other = by (lacks_module w m) (has_child w m n) (is_full w.places) (child_fault w m n) (lacking (knows w (held.Module m)) k) refl refl (by-tests w m n) h
  where
    many : Bool
    many = has_too_many (child_world w m n origin v)

    lacking : (b : Bool) → IsTrue b → not b ≡ false
    lacking true k = refl
    lacking false k = cc

    full : has_child w m n ≡ false → is_full w.places ≡ true → many ≡ true
    full free is =
        ap (λ b. has_too_many (cond b w (with_module w m n origin v))) free
        ∙ module-past w m n origin v k (full-least w.places is)

    by : (a b c : Bool) (o : Option BuildFault) → a ≡ false → has_child w m n ≡ b → is_full w.places ≡ c → o ≡ cond a (Some NoSuchModule) (cond b (Some TakenChild) (cond c (Some OutOfNumbers) None)) → Answers {A = A} o (Err f) → is_shortage many f ≡ true
    by true b c o l free is e h = cc
    by false b c None l free is e h = short-memory many f h
    by false true c (Some g) l free is e h = absurd (other (let same : f ≡ TakenChild = cc in same))
    by false false true (Some g) l free is e h = let same : f ≡ OutOfNumbers = cc in ap (is_shortage many) same ∙ full free is
    by false false false (Some g) l free is e h = cc
