-- The number of unresolved imports does not change; and a round may go from each that is due to the next.
use Rattle.std.proofs.Common.{◌≡◌, ◌∙◌, ◌⊎◌, inl, inr, ◌+◌, ◌<◌, ◌≤◌, ◌||◌, ℕ, zero, suc, Bool, true, false, List, Option, None, Some, add-one, ap, arith, if◌then◌else◌, leb, refl, slice_get, sym, length, set}
use Rattle.std.proofs.lemmas.Bool.Decides.{leb_tells}
use Rattle.std.proofs.lemmas.List.{length-map, length-set}
use Rattle.std.specs.Option.{option_map_or}
use Rattle.dm_retry.specs.Bits.{IsFirst}
use Rattle.dm_retry.specs.Rounds.{Pending, State, after, any_would_write, awoken, would_write, would_write_at, due_turns, is_due, marked, marked_after, marked_at, name_at, tried, try_at}
use Rattle.dm_retry.specs.Retries.{RestsAt}

pub length-marked : (ps : List Pending) (i : ℕ) (d : Bool) → length (marked_at ps i d) ≡ length ps
length-marked ps i d = by (slice_get ps i)
  where
    by : (o : Option Pending) → length (option_map_or (λ p. set ps i (marked d p)) o ps) ≡ length ps
    by None = refl
    by (Some p) = length-set ps i (marked d p)

length-after : (ps : List Pending) (i : ℕ) (b : Bool) → length (marked_after ps i b) ≡ length ps
length-after ps i true = length-map (marked_at ps i false) (awoken (name_at ps i)) ∙ length-marked ps i false
length-after ps i false = length-marked ps i false

length-try : (s : State) (i : ℕ) → length (try_at s i).pending ≡ length s.pending
length-try s i = by (slice_get s.pending i)
  where
    by : (o : Option Pending) → length (option_map_or (tried s i) o s).pending ≡ length s.pending
    by None = refl
    by (Some p) = length-after s.pending i (would_write s.world s.globs p)

pub length-tries : (s : State) (n : ℕ) → length (after s n).pending ≡ length s.pending
length-tries s zero = refl
length-tries s (suc n) = length-try (after s n) n ∙ length-tries s n

-- ---- Tries from one that is due to the next

or_false : (b : Bool) → (b || false) ≡ b
or_false true = refl
or_false false = refl

-- the tries from `from` up to n change nothing, bring nothing and are of none that is due
pub record Rests (s : State) (from n : ℕ) : Type 0 where
  pub state : after s n ≡ after s from
  pub answer : any_would_write s n ≡ any_would_write s from
  pub turns : due_turns s n ≡ due_turns s from

same : (s : State) (from n : ℕ) → n ≡ from → Rests s from n
same s from n e = record { state = ap (after s) e; answer = ap (any_would_write s) e; turns = ap (due_turns s) e }

-- where none of those is due, they do not
gap : (s t : State) (from n : ℕ) → t ≡ after s from → from ≤ n → ((k : ℕ) → is_due t k ≡ false → RestsAt t k) → ((k : ℕ) → from ≤ k → k < n → is_due t k ≡ false) → Rests s from n
gap s t from zero e le rests none = same s from zero (omega arith)
gap s t from (suc n) e le rests none = by (leb_tells from n) (λ low. gap s t from n e low rests (λ k low high. none k low (omega arith)))
  where
    by : ((leb from n ≡ true) × (from ≤ n)) ⊎ ((leb from n ≡ false) × (n < from)) → (from ≤ n → Rests s from n) → Rests s from (suc n)
    by (inr h) below = same s from (suc n) (omega (arith, h.1))
    by (inl h) below =
        let r = below h.1 in
        let here : after s n ≡ t = r.state ∙ sym e in
        let idle = none n h.1 (omega arith) in
        let rest = rests n idle in
        let kept : due_turns s n + 0 ≡ due_turns s n = omega arith in
        record {
          state = ap (λ u. try_at u n) here ∙ rest.leaves ∙ e;
          answer = ap (λ u. any_would_write s n || would_write_at u n) here ∙ ap (λ b. any_would_write s n || b) rest.writes ∙ or_false (any_would_write s n) ∙ r.answer;
          turns = ap (λ u. due_turns s n + (if is_due u n then 1 else 0)) here ∙ ap (λ b. due_turns s n + (if b then 1 else 0)) idle ∙ kept ∙ r.turns;
        }

-- the next turn of one that is due
pub record Turn (s t u : State) (from i : ℕ) : Type 0 where
  pub here : after s i ≡ t
  pub before : due_turns s i ≡ due_turns s from
  pub state : u ≡ try_at t i → u ≡ after s (i + 1)
  pub answer : any_would_write s (i + 1) ≡ (any_would_write s from || would_write_at t i)
  pub turns : due_turns s (i + 1) ≡ due_turns s from + 1

pub next-turn : (s t u : State) (from i : ℕ) → t ≡ after s from → IsFirst (is_due t) from (Some i) → ((k : ℕ) → is_due t k ≡ false → RestsAt t k) → Turn s t u from i
next-turn s t u from i e first rests =
    let r = gap s t from i e first.0 rests first.2 in
    let here : after s i ≡ t = r.state ∙ sym e in
    record {
      here = here;
      before = r.turns;
      state = λ is. is ∙ ap (λ x. try_at x i) (sym here) ∙ ap (after s) (sym (add-one i));
      answer = ap (any_would_write s) (add-one i) ∙ ap (λ x. any_would_write s i || would_write_at x i) here ∙ ap (λ b. b || would_write_at t i) r.answer;
      turns = ap (due_turns s) (add-one i) ∙ ap (λ x. due_turns s i + (if is_due x i then 1 else 0)) here ∙ ap (λ b. due_turns s i + (if b then 1 else 0)) first.1 ∙ ap (λ n. n + 1) r.turns;
    }

-- and the end, where none is due from there on
pub last-turn : (s t : State) (from n : ℕ) → t ≡ after s from → from ≤ n → IsFirst (is_due t) from None → ((k : ℕ) → is_due t k ≡ false → RestsAt t k) → Rests s from n
last-turn s t from n e le none rests = gap s t from n e le rests (λ k low high. none k low)
