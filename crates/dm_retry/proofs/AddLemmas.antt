-- One import more: those of before stay as they were, and the last is new.
use Rattle.std.proofs.Common.{◌≡◌, ◌∙◌, ◌⊎◌, inl, inr, ℕ, zero, suc, Bool, true, false, cond, List, [], ◌∷◌, ◌++◌, None, Some, ap, refl, subst, sym, length, slice_get, true≢false}
use Rattle.dm_maps.specs.Known.{KnowsAll}
use Rattle.dm_retry.specs.Known.{add_fault, is_known, is_listed, parts, same_leaf}
use Rattle.dm_retry.specs.Rounds.{Pending, State, added, would_write, marked}
use Rattle.dm_retry.specs.Settled.{IsSettled}
use Rattle.dm_retry.specs.declared.add_fault.AddFault.TheVariants as adding
use Rattle.dm_retry.proofs.StartLemmas.{any-at, import-refl, knows-from}

-- an element of a list with one more
one-of : {A : Type 0} (xs : List A) (x y : A) (i : ℕ) → slice_get (xs ++ x ∷ []) i ≡ Some y → (slice_get xs i ≡ Some y) ⊎ ((i ≡ length xs) × (x ≡ y))
one-of [] x y zero is = let same : x ≡ y = cc in inr (refl, same)
one-of [] x y (suc i) is = inl is
one-of (z ∷ xs) x y zero is = inl is
one-of (z ∷ xs) x y (suc i) is = later (one-of xs x y i is)
  where
    later : (slice_get xs i ≡ Some y) ⊎ ((i ≡ length xs) × (x ≡ y)) → (slice_get xs i ≡ Some y) ⊎ ((suc i ≡ suc (length xs)) × (x ≡ y))
    later (inl h) = inl h
    later (inr h) = inr (ap suc h.0, h.1)

fine : (twice known : Bool) → cond twice (Some adding.Double) (cond known None (Some adding.UnknownPart)) ≡ None → (twice ≡ false) × (known ≡ true)
fine true known h = cc
fine false true h = (refl, refl)
fine false false h = cc

module _ (s : State) (p : Pending) (before : IsSettled s) (taken : add_fault s.world s.pending p ≡ None) where
  tests : (is_listed s.pending p.import ≡ false) × (is_known s.world p ≡ true)
  tests = fine (is_listed s.pending p.import) (is_known s.world p) taken

  -- it is none of those of before
  other : (i : ℕ) (q : Pending) → slice_get s.pending i ≡ Some q → p.import ≡ q.import → ⊥
  other i q at same =
      true≢false (sym (import-refl p.import) ∙ ap (same_leaf p.import) same ∙ any-at (λ (r : Pending). same_leaf p.import r.import) s.pending i q tests.0 at)

  pub adds : IsSettled (added s p)
  adds = record {
    known = λ i q at. by-known i q (one-of s.pending (marked true p) q i at);
    single = λ i j q r a b same. by-single i j q r same (one-of s.pending (marked true p) q i a) (one-of s.pending (marked true p) r j b);
    settled = λ i q at none. by-settled i q none (one-of s.pending (marked true p) q i at);
  }
    where
      by-known : (i : ℕ) (q : Pending) → (slice_get s.pending i ≡ Some q) ⊎ ((i ≡ length s.pending) × (marked true p ≡ q)) → KnowsAll s.world (parts q)
      by-known i q (inl h) = before.known i q h
      by-known i q (inr h) = subst (λ (z : Pending). KnowsAll s.world (parts z)) h.1 (knows-from s.world (parts p) tests.1)

      by-single : (i j : ℕ) (q r : Pending) → q.import ≡ r.import → (slice_get s.pending i ≡ Some q) ⊎ ((i ≡ length s.pending) × (marked true p ≡ q)) → (slice_get s.pending j ≡ Some r) ⊎ ((j ≡ length s.pending) × (marked true p ≡ r)) → i ≡ j
      by-single i j q r same (inl h) (inl k) = before.single i j q r h k same
      by-single i j q r same (inl h) (inr k) = absurd (other i q h (ap (λ (z : Pending). z.import) k.1 ∙ sym same))
      by-single i j q r same (inr h) (inl k) = absurd (other j r k (ap (λ (z : Pending). z.import) h.1 ∙ same))
      by-single i j q r same (inr h) (inr k) = h.0 ∙ sym k.0

      by-settled : (i : ℕ) (q : Pending) → q.due ≡ false → (slice_get s.pending i ≡ Some q) ⊎ ((i ≡ length s.pending) × (marked true p ≡ q)) → would_write s.world s.globs q ≡ false
      by-settled i q none (inl h) = before.settled i q h none
      by-settled i q none (inr h) = absurd (true≢false (ap (λ (z : Pending). z.due) h.1 ∙ none))
