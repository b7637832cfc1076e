-- Tables of what was read grow: what was read stays.
use Rattle.std.proofs.Common.{◌≡◌, ◌++◌, ◌<◌, ℕ, zero, suc, List, [], ◌∷◌, length, refl, ap, sym, subst, cond, arith, true, false, Bool, ◌∙◌}
use Rattle.std.specs.Prelude.{Option, Some, None, nat_eq, slice_get, slice_set}
use Rattle.std.proofs.lemmas.Bool.{eqb-false, eqb-true}
use Rattle.crate_items.specs.Files.{SourceFile, text_of, text_or_nothing}
use Rattle.crate_items.specs.Sources.{AreSourcesOf, IsSourceOf, Source, known, source_at}
use Rattle.dm_base.specs.declared.ids.FileId.{FileId}
use Rattle.dm_base.specs.declared.edition.Edition.{Edition}
use Rattle.item_tree.specs.declared.cfg.CfgAtom.{CfgAtom}

-- a table of nothing that was read has nothing
abbrev pub IsEmpty : List (Option Source) → Type 0
IsEmpty table = (i : ℕ) → known (slice_get table i) ≡ None

pub empty_more : (table : List (Option Source)) → IsEmpty table → IsEmpty (table ++ None ∷ [])
empty_more [] e zero = refl
empty_more [] e (suc i) = refl
empty_more (s ∷ ss) e zero = e zero
empty_more (s ∷ ss) e (suc i) = empty_more ss (λ j. e (suc j)) i

set_same : (table : List (Option Source)) (k : ℕ) (v : Option Source) → k < length table → slice_get (slice_set table k v) k ≡ Some v
set_same [] k v h = absurd (let f : ⊥ = omega arith in f)
set_same (x ∷ xs) zero v h = refl
set_same (x ∷ xs) (suc k) v h =
    let within : k < length xs = omega arith in
    set_same xs k v within

set_other : (table : List (Option Source)) (k i : ℕ) (v : Option Source) → (i ≡ k → ⊥) → slice_get (slice_set table k v) i ≡ slice_get table i
set_other [] k i v n = refl
set_other (x ∷ xs) zero zero v n = absurd (n refl)
set_other (x ∷ xs) zero (suc i) v n = refl
set_other (x ∷ xs) (suc k) zero v n = refl
set_other (x ∷ xs) (suc k) (suc i) v n = set_other xs k i v (λ e. n (ap suc e))

-- one more that was read
pub set_known : (table : List (Option Source)) (k : ℕ) (s : Source) (i : ℕ) → k < length table
    → known (slice_get (slice_set table k (Some s)) i) ≡ cond (nat_eq i k) (Some s) (known (slice_get table i))
set_known table k s i h = by (nat_eq i k) refl
  where
    by : (b : Bool) → nat_eq i k ≡ b → known (slice_get (slice_set table k (Some s)) i) ≡ cond b (Some s) (known (slice_get table i))
    by true e = ap (λ j. known (slice_get (slice_set table k (Some s)) j)) (eqb-true i k e) ∙ ap known (set_same table k (Some s) h)
    by false e = ap known (set_other table k i (Some s) (eqb-false i k e))

some_is : {a b : Source} → Some a ≡ Some b → a ≡ b
some_is e = cc

-- a table has what the crate reads of each text, with one file more
pub right_more : (edition : Edition) (options : List CfgAtom) (files : List SourceFile) (old new : List (Option Source)) (file : FileId) (s : Source) → AreSourcesOf edition options files old
    → ((id : FileId) → source_at new id ≡ cond (nat_eq id.0 file.0) (Some s) (source_at old id)) → IsSourceOf edition options (text_of files file) s → AreSourcesOf edition options files new
right_more edition options files old new file s right set is id found at = by (nat_eq id.0 file.0) refl
  where
    by : (b : Bool) → nat_eq id.0 file.0 ≡ b → IsSourceOf edition options (text_of files id) found
    by true e =
        let same : Some found ≡ Some s = sym at ∙ set id ∙ ap (λ b. cond b (Some s) (source_at old id)) e in
        let number = eqb-true id.0 file.0 e in
        subst (λ (r : Source). IsSourceOf edition options (text_of files id) r) (sym (some_is same))
        (subst (λ (n : ℕ). IsSourceOf edition options (text_or_nothing (slice_get files n)) s) (sym number) is)
    by false e =
        right id found (sym (set id ∙ ap (λ b. cond b (Some s) (source_at old id)) e) ∙ at)
