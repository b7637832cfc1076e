-- What the answer of adding a variant tells of its enum.
use Rattle.std.proofs.Common.{◌≡◌, Bool, true, false, cond, not, Option, Some, None, ◌∙◌, ap, refl}
use Rattle.std.specs.Prelude.{Ok, Err, IsTrue}
use Rattle.dm_maps.specs.declared.check.held.HeldId.TheVariants as held
use Rattle.dm_base.specs.Names.{Name}
use Rattle.dm_base.specs.declared.ids.EnumId.{EnumId}
use Rattle.dm_base.specs.declared.item_ids.ItemKind.TheVariants as kinds
use Rattle.dm_maps.specs.Faults.{Answers, is_full}
use Rattle.dm_maps.specs.ItemFaults.{has_variant, lacks_enum, variant_fault}
use Rattle.dm_maps.specs.Known.{knows}
use Rattle.dm_maps.specs.World.{World}
use Rattle.dm_maps.specs.declared.build_fault.BuildFault.{BuildFault}
use Rattle.dm_maps.specs.declared.build_fault.BuildFault.TheVariants.{NoSuchEnum, TakenVariant, OutOfNumbers}
use Rattle.crate_items.specs.declared.items.declared_variant.DeclaredVariant.{DeclaredVariant}
use Rattle.crate_tables.proofs.MoreSteps.{full-past, many-variants, short-memory}
use Rattle.crate_tables.specs.CrateDefs.{with_new_variant, with_variant_of}
use Rattle.crate_tables.specs.Numbers.{has_too_many, is_shortage}

by-tests : (w : World) (e : EnumId) (n : Name) → variant_fault w e n ≡ cond (lacks_enum w e) (Some NoSuchEnum) (cond (has_variant w e n) (Some TakenVariant) (cond (is_full w.variants) (Some OutOfNumbers) None))
unfolding variant_fault
by-tests w e n = refl

-- a variant was added: its name was free
pub variant-free : (w : World) (e : EnumId) (n : Name) {A : Type 0} (x : A) → Answers (variant_fault w e n) (Ok x) → has_variant w e n ≡ false
variant-free w e n {A} x h = by (lacks_enum w e) (has_variant w e n) (is_full w.variants) (variant_fault w e n) (by-tests w e n) h
  where
    by : (a b c : Bool) (o : Option BuildFault) → o ≡ cond a (Some NoSuchEnum) (cond b (Some TakenVariant) (cond c (Some OutOfNumbers) None)) → Answers {A = A} o (Ok x) → b ≡ false
    by a false c o e h = refl
    by a true c (Some f) e h = cc
    by true true c None e h = cc
    by false true c None e h = cc

-- its name was refused: it was taken
pub variant-taken : (A : Type 0) (w : World) (e : EnumId) (n : Name) → Answers {A = A} (variant_fault w e n) (Err TakenVariant) → has_variant w e n ≡ true
variant-taken A w e n h = by (lacks_enum w e) (has_variant w e n) (is_full w.variants) (variant_fault w e n) (by-tests w e n) h
  where
    by : (a b c : Bool) (o : Option BuildFault) → o ≡ cond a (Some NoSuchEnum) (cond b (Some TakenVariant) (cond c (Some OutOfNumbers) None)) → Answers {A = A} o (Err TakenVariant) → b ≡ true
    by a true c o e h = refl
    by a false c None e h = cc
    by true false c (Some f) e h = cc
    by false false true (Some f) e h = cc
    by false false false (Some f) e h = cc

-- another refusal, of an enum that is there: memory or numbers ran out
pub variant-short : (A : Type 0) (w : World) (e : EnumId) (x : DeclaredVariant) (f : BuildFault) → IsTrue (knows w (held.Item kinds.Enum e.0)) → Answers {A = A} (variant_fault w e x.name) (Err f) → (f ≡ TakenVariant → ⊥)
    → is_shortage (has_too_many (with_variant_of w e x)) f ≡ true
variant-short A w e x f k h other = by (lacks_enum w e) (has_variant w e x.name) (is_full w.variants) (variant_fault w e x.name) (lacking (knows w (held.Item kinds.Enum e.0)) k) refl refl (by-tests w e x.name) h
  where
    many : Bool
    many = has_too_many (with_variant_of w e x)

    lacking : (b : Bool) → IsTrue b → not b ≡ false
    lacking true k = refl
    lacking false k = cc

    full : has_variant w e x.name ≡ false → is_full w.variants ≡ true → many ≡ true
    full free is =
        ap (λ b. has_too_many (cond b w (with_new_variant w e x))) free
        ∙ many-variants (with_new_variant w e x) (full-past w.variants e is)

    by : (a b c : Bool) (o : Option BuildFault) → a ≡ false → has_variant w e x.name ≡ b → is_full w.variants ≡ c → o ≡ cond a (Some NoSuchEnum) (cond b (Some TakenVariant) (cond c (Some OutOfNumbers) None)) → Answers {A = A} o (Err f) → is_shortage many f ≡ true
    by true b c o l free is e h = cc
    by false b c None l free is e h = short-memory many f h
    by false true c (Some g) l free is e h = absurd (other (let same : f ≡ TakenVariant = cc in same))
    by false false true (Some g) l free is e h = let same : f ≡ OutOfNumbers = cc in ap (is_shortage many) same ∙ full free is
    by false false false (Some g) l free is e h = cc
