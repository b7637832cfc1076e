-- Paths, read from their ends and by their components.
use Rattle.std.proofs.Common.{◌≡◌, ◌+◌, ◌<◌, ◌≤◌, ◌∷◌, [], ℕ, Bool, true, false, cond, not, List, Some, None, length, take, drop, fold, position, refl, arith, ◌∙◌, ap}
use Rattle.std.proofs.lemmas.List.Sums.{suffix_len-take_yes, suffix_len-take_no}
use Rattle.std.proofs.lemmas.List.Splits.{slice_split_first}
use Rattle.std.specs.List.{slice_split, onto_first, position_or_len}
use Rattle.std.specs.Prelude.{nat_lt}
use borrow.Author.Tests.{ltb-true, ltb-false}

pub ruleset suffixes = (suffix_len-take_yes, suffix_len-take_no)

-- a list in which no element passes is one part
pub unsplit : (p : ℕ → Bool) (xs : List ℕ) → length xs ≤ position_or_len p xs → slice_split p xs ≡ xs ∷ []
unsplit p [] all = refl
unsplit p (x ∷ xs) all = by (p x) all (unsplit p xs)
  where
    by : (b : Bool) → length (x ∷ xs) ≤ cond (not b) (1 + position_or_len p xs) 0 → (length xs ≤ position_or_len p xs → slice_split p xs ≡ xs ∷ [])
        → cond b ([] ∷ slice_split p xs) (onto_first x (slice_split p xs)) ≡ (x ∷ xs) ∷ []
    by true h rest = absurd (omega arith)
    by false h rest = ap (onto_first x) (rest (omega arith))

module _ (p : ℕ → Bool) where
  -- the first place that passes is within, and ends the first part
  pub first-place : (xs : List ℕ) (k : ℕ) → position p xs ≡ Some k → (k < length xs) × (position_or_len p xs ≡ k)
  first-place xs k is = by (nat_lt (position_or_len p xs) (length xs)) refl is
    where
      by : (b : Bool) → nat_lt (position_or_len p xs) (length xs) ≡ b → cond b (Some (position_or_len p xs)) None ≡ Some k → (k < length xs) × (position_or_len p xs ≡ k)
      by true lt e = let same : position_or_len p xs ≡ k = cc in let within : position_or_len p xs < length xs = ltb-true _ _ lt in (omega arith, same)
      by false lt e = absurd (cc)

  pub one-part : (xs : List ℕ) → position p xs ≡ None → slice_split p xs ≡ xs ∷ []
  one-part xs is = by (nat_lt (position_or_len p xs) (length xs)) refl is
    where
      by : (b : Bool) → nat_lt (position_or_len p xs) (length xs) ≡ b → cond b (Some (position_or_len p xs)) None ≡ None → slice_split p xs ≡ xs ∷ []
      by true lt e = absurd (cc)
      by false lt e = unsplit p xs (ltb-false _ _ lt)

  pub fold-step : {A : Type 0} (f : A → List ℕ → A) (a : A) (xs : List ℕ) (k : ℕ) → position p xs ≡ Some k
      → fold f a (slice_split p xs) ≡ fold f (f a (take k xs)) (slice_split p (drop (k + 1) xs))
  fold-step f a xs k is =
      let at = first-place xs k is in
      let within : position_or_len p xs < length xs = omega (arith, at.0, at.1) in
      ap (fold f a) (slice_split_first p xs 0 within) ∙ ap (λ i. fold f (f a (take i xs)) (slice_split p (drop (i + 1) xs))) at.1

  pub fold-last : {A : Type 0} (f : A → List ℕ → A) (a : A) (xs : List ℕ) → position p xs ≡ None → fold f a (slice_split p xs) ≡ f a xs
  fold-last f a xs is = ap (fold f a) (one-part xs is)

pub ruleset parts = (fold-step, fold-last)
