-- After a round that changed nothing no import is due, and a try of any would change nothing.
use Rattle.std.proofs.Common.{◌≡◌, ◌∙◌, ◌<◌, ◌≤◌, ◌⊎◌, inl, inr, arith, ℕ, zero, suc, Bool, false, List, [], ◌∷◌, Option, None, Some, Result, Ok, ap, sym, refl, subst, slice_get, slice_set, length}
use Rattle.std.specs.Option.{option_map_or}
use Rattle.std.specs.declared.alloc.AllocError.{AllocError}
use Rattle.std.proofs.lemmas.Bool.{cases_lt, or_parts}
use Rattle.std.proofs.lemmas.Option.{slice_get_past}
use Rattle.dm_retry.specs.Rounds.{Pending, State, after, any_would_write, would_write, is_due, marked, marked_after, round, round_answer, tried}
use Rattle.dm_retry.specs.Retries.{RestsAt}
use Rattle.dm_retry.specs.Settling.{IsFixedPoint}
use Rattle.dm_retry.proofs.RoundLemmas.{length-tries}

abbrev due_at : List Pending → ℕ → Bool
due_at ps i = option_map_or (λ (p : Pending). p.due) (slice_get ps i) false

-- an import that is put in not due makes none due, and is not due itself
put-undue : (ps : List Pending) (i j : ℕ) (p : Pending) → due_at ps j ≡ false → due_at (slice_set ps i (marked false p)) j ≡ false
put-undue [] i j p h = h
put-undue (q ∷ ps) zero zero p h = refl
put-undue (q ∷ ps) zero (suc j) p h = h
put-undue (q ∷ ps) (suc i) zero p h = h
put-undue (q ∷ ps) (suc i) (suc j) p h = put-undue ps i j p h

put-own : (ps : List Pending) (i : ℕ) (p : Pending) → due_at (slice_set ps i (marked false p)) i ≡ false
put-own [] i p = refl
put-own (q ∷ ps) zero p = refl
put-own (q ∷ ps) (suc i) p = put-own ps i p

before-or-at : (i n : ℕ) → i < suc n → (i < n) ⊎ (i ≡ n)
before-or-at i n h = by (cases_lt i n)
  where
    by : (i < n) ⊎ (n ≤ i) → (i < n) ⊎ (i ≡ n)
    by (inl l) = inl l
    by (inr l) = inr (omega (arith, l, h))

-- a try that changes nothing
module _ (s : State) (n : ℕ) where
  idle-try : (o : Option Pending) → slice_get s.pending n ≡ o → option_map_or (would_write s.world s.globs) o false ≡ false → (i : ℕ)
      → (i < n → is_due s i ≡ false) → i < suc n → due_at (option_map_or (tried s n) o s).pending i ≡ false
  idle-try o at none i before within = by o at none (before-or-at i n within)
    where
      by : (o : Option Pending) → slice_get s.pending n ≡ o → option_map_or (would_write s.world s.globs) o false ≡ false → (i < n) ⊎ (i ≡ n) → due_at (option_map_or (tried s n) o s).pending i ≡ false
      by None at none (inl l) = before l
      by None at none (inr e) = ap (λ j. due_at s.pending j) e ∙ ap (λ q. option_map_or (λ (p : Pending). p.due) q false) at
      by (Some p) at none split = ap (λ b. due_at (marked_after s.pending n b) i) none ∙ ap (λ l. due_at l i) (ap (λ q. option_map_or (λ x. slice_set s.pending n (marked false x)) q s.pending) at) ∙ put split
        where
          put : (i < n) ⊎ (i ≡ n) → due_at (slice_set s.pending n (marked false p)) i ≡ false
          put (inl l) = put-undue s.pending n i p (before l)
          put (inr e) = ap (λ j. due_at (slice_set s.pending n (marked false p)) j) e ∙ put-own s.pending n p

none-due : (s : State) (n : ℕ) → any_would_write s n ≡ false → (i : ℕ) → i < n → is_due (after s n) i ≡ false
none-due s zero h i within = absurd (omega (arith, within))
none-due s (suc n) h i within =
    let both = or_parts (any_would_write s n) _ h in
    idle-try (after s n) n (slice_get (after s n).pending n) refl both.1 i (none-due s n both.0 i) within

pub fixed-point : (s : State) → ((i : ℕ) → is_due (round s) i ≡ false → RestsAt (round s) i) → round_answer s ≡ false → IsFixedPoint (round s)
fixed-point s rests h = record { none_due = none; rests = λ i. rests i (none i) }
  where
    count : length (round s).pending ≡ length s.pending
    count = length-tries s (length s.pending)

    at : (i : ℕ) → (i < length s.pending) ⊎ (length s.pending ≤ i) → is_due (round s) i ≡ false
    at i (inl l) = none-due s (length s.pending) h i l
    at i (inr l) = ap (λ q. option_map_or (λ (p : Pending). p.due) q false) (slice_get_past (round s).pending i (omega (arith, count, l)))

    none : (i : ℕ) → is_due (round s) i ≡ false
    none i = at i (cases_lt i (length s.pending))

-- what a round leaves that answers false
pub fixed-after : (s t : State) (answer : Bool) → t ≡ round s → answer ≡ round_answer s → ((i : ℕ) → is_due t i ≡ false → RestsAt t i)
    → ◌≡◌ {A = Result Bool AllocError} (Ok answer) (Ok false) → IsFixedPoint t
fixed-after s t answer state is rests same =
    let none : answer ≡ false = cc in
    subst IsFixedPoint (sym state) (fixed-point s (subst (λ (u : State). (i : ℕ) → is_due u i ≡ false → RestsAt u i) state rests) (sym is ∙ none))
