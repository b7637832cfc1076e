-- Imports that `Retry::new` takes: none is listed twice, and the ids that they hold are the world's.
use Rattle.std.proofs.Common.{◌≡◌, ◌∙◌, ℕ, zero, suc, ◌+◌, Bool, true, false, cond, not, List, [], ◌∷◌, Option, None, Some, ap, sym, refl, subst, slice_get, map, rules, true≢false}
use Rattle.std.specs.List.{list_any, list_all, position_from}
use Rattle.std.specs.Option.{option_map, option_or}
use Rattle.std.proofs.lemmas.Bool.{and_parts, not-false, or_parts}
use Rattle.std.proofs.lemmas.Option.{slice_get-map}
use Rattle.dm_base.specs.declared.imports.ImportId.{ImportId}
use Rattle.dm_maps.specs.declared.check.held.HeldId.{HeldId}
use Rattle.dm_scope.specs.Flags.{Globs}
use Rattle.dm_maps.specs.Known.{knows, KnowsAll}
use Rattle.dm_maps.specs.World.{World}
use Rattle.dm_retry.specs.declared.retry_fault.RetryFault.{RetryFault}
use Rattle.dm_retry.specs.declared.retry_fault.RetryFault.TheVariants.{DoubleImport, UnknownPart}
use Rattle.dm_retry.specs.Known.{double_from, fault_of, first_double, first_unknown, is_known, parts, same_leaf}
use Rattle.dm_retry.specs.Rounds.{Pending, marked}
use Rattle.dm_retry.specs.Settled.{IsSettled}

-- ---- Tests of all of a list

pub any-at : {A : Type 0} (t : A → Bool) (xs : List A) (i : ℕ) (x : A) → list_any t xs ≡ false → slice_get xs i ≡ Some x → t x ≡ false
any-at t [] i x none at = cc
any-at t (y ∷ ys) zero x none at = let same : y ≡ x = cc in ap t (sym same) ∙ (or_parts (t y) (list_any t ys) none).0
any-at t (y ∷ ys) (suc i) x none at = any-at t ys i x ((or_parts (t y) (list_any t ys) none).1) at

-- what a search that finds nothing says of the first element, and of the others
passed : (b : Bool) (k : ℕ) (rest : Option ℕ) → cond b (Some k) rest ≡ None → (b ≡ false) × (rest ≡ None)
passed true k rest none = cc
passed false k rest none = (refl, none)

-- where no element fails a test, each passes it
all-at : {A : Type 0} (t : A → Bool) (k : ℕ) (xs : List A) (i : ℕ) (x : A) → position_from (λ y. not (t y)) k xs ≡ None → slice_get xs i ≡ Some x → t x ≡ true
all-at t k [] i x all at = cc
all-at t k (y ∷ ys) zero x all at = let same : y ≡ x = cc in ap t (sym same) ∙ not-false (t y) ((passed (not (t y)) k (position_from (λ z. not (t z)) (k + 1) ys) all).0)
all-at t k (y ∷ ys) (suc i) x all at = all-at t (k + 1) ys i x ((passed (not (t y)) k (position_from (λ z. not (t z)) (k + 1) ys) all).1) at

pub knows-from : (w : World) (hs : List HeldId) → list_all (knows w) hs ≡ true → KnowsAll w hs
knows-from w [] all = tt
knows-from w (h ∷ hs) all = ((and_parts (knows w h) (list_all (knows w) hs) all).0, knows-from w hs ((and_parts (knows w h) (list_all (knows w) hs) all).1))

-- ---- Imports that are taken

pub import-refl : (i : ImportId) → same_leaf i i ≡ true
import-refl = Prim.search rules

pub singles : (k : ℕ) (ps : List Pending) → double_from k ps ≡ None → (i j : ℕ) (p q : Pending) → slice_get ps i ≡ Some p → slice_get ps j ≡ Some q → p.import ≡ q.import → i ≡ j
singles k [] none i j p q a b same = cc
singles k (x ∷ xs) none zero zero p q a b same = refl
singles k (x ∷ xs) none zero (suc j) p q a b same =
    let is : x ≡ p = cc in
    let differ : same_leaf x.import q.import ≡ false = any-at (λ (r : Pending). same_leaf x.import r.import) xs j q ((passed _ k (double_from (k + 1) xs) none).0) b in
    absurd (true≢false (sym (import-refl q.import) ∙ ap (λ k. same_leaf k q.import) (sym (ap (λ (z : Pending). z.import) is ∙ same)) ∙ differ))
singles k (x ∷ xs) none (suc i) zero p q a b same =
    let is : x ≡ q = cc in
    let differ : same_leaf x.import p.import ≡ false = any-at (λ (r : Pending). same_leaf x.import r.import) xs i p ((passed _ k (double_from (k + 1) xs) none).0) a in
    absurd (true≢false (sym (import-refl p.import) ∙ ap (λ k. same_leaf k p.import) (same ∙ sym (ap (λ (z : Pending). z.import) is)) ∙ differ))
singles k (x ∷ xs) none (suc i) (suc j) p q a b same = ap suc (singles (k + 1) xs ((passed _ k (double_from (k + 1) xs) none).1) i j p q a b same)

-- an import of the list of due ones is one of the list but for its mark
due-at : (ps : List Pending) (i : ℕ) (r : Pending) → slice_get (map (marked true) ps) i ≡ Some r → (q : Pending) × (slice_get ps i ≡ Some q) × (r ≡ marked true q)
due-at ps i r is = by (slice_get ps i) refl (sym (slice_get-map (marked true) ps i) ∙ is)
  where
    by : (o : Option Pending) → slice_get ps i ≡ o → option_map (marked true) o ≡ Some r → (q : Pending) × (slice_get ps i ≡ Some q) × (r ≡ marked true q)
    by None at e = cc
    by (Some q) at e = let same : marked true q ≡ r = cc in (q, at, sym same)

-- where no import is rejected, none is listed twice, and none holds an id the world does not have
fine-is : (d u : Option ℕ) → option_map (λ (r : RetryFault × ℕ). r.0) (option_or (option_map (λ i. (DoubleImport, i)) d) (option_map (λ i. (UnknownPart, i)) u)) ≡ None → (d ≡ None) × (u ≡ None)
fine-is None None fine = (refl, refl)
fine-is None (Some i) fine = cc
fine-is (Some i) u fine = cc

pub starts : (w : World) (g : Globs) (ps : List Pending) → fault_of w ps ≡ None → IsSettled (record { world = w; globs = g; pending = map (marked true) ps })
starts w g ps fine = let none = fine-is (first_double ps) (first_unknown w ps) fine in record {
  known = λ i r at. let was = due-at ps i r at in subst (λ (q : Pending). KnowsAll w (parts q)) (sym was.2) (knows-from w (parts was.0) (all-at (is_known w) 0 ps i was.0 none.1 was.1));
  single = λ i j p q a b same. let first = due-at ps i p a in let second = due-at ps j q b in
      singles 0 ps none.0 i j first.0 second.0 first.1 second.1 (ap (λ (z : Pending). z.import) (sym first.2) ∙ same ∙ ap (λ (z : Pending). z.import) second.2);
  settled = λ i r at none. let was = due-at ps i r at in absurd (true≢false (ap (λ (z : Pending). z.due) (sym was.2) ∙ none));
}
