-- Rounds that are made until a fixed point, a given number of them at most.
use Rattle.std.specs.Prelude.{◌≡◌, ◌<◌, ℕ, suc, Bool, true, false}
use Rattle.dm_retry.specs.Rounds.{State, round_answer, rounds}
use Rattle.dm_retry.specs.Retries.{NoneDue, RestsAt, Retries, StopsAtDue}

-- The world is a fixed point of its imports: none is due, and a try of any would bind nothing, and change nothing.
pub record IsFixedPoint (s : State) : Type 0 where
  pub none_due : NoneDue s
  pub rests : (i : ℕ) → RestsAt s i

-- Each of the first `count` rounds changes something.
abbrev pub AllBring : State → ℕ → Type 0
AllBring s count = (k : ℕ) → k < count → round_answer (rounds k s) ≡ true

-- One of the rounds changes nothing, the fixed point, and is the last that is made.
pub record IsIdleWithin (s : State) (limit : ℕ) (t : State) : Type 0 where
  pub before : ℕ
  pub fewer : before < limit
  pub bring : AllBring s before
  pub idle : round_answer (rounds before s) ≡ false
  pub state : t ≡ rounds (suc before) s

-- All of the rounds are made, and each changes something.
pub record AreAllMade (s : State) (limit : ℕ) (t : State) : Type 0 where
  pub bring : AllBring s limit
  pub state : t ≡ rounds limit s

-- the state after them, where one changed nothing and where none did
abbrev pub IsResolved : State → ℕ → Bool → State → Type 0
IsResolved s limit true t = IsIdleWithin s limit t
IsResolved s limit false t = AreAllMade s limit t

-- An allocation failure stops one of the rounds at an import that is due, and each round before it changes something.
pub record IsStopped (s : State) (limit : ℕ) (r : Retries) : Type 0 where
  pub before : ℕ
  pub fewer : before < limit
  pub bring : AllBring s before
  pub stops : StopsAtDue (rounds before s) r
