-- How often a repetition of a transcriber is written: as often as the repetitions of the matcher that it goes along with.
use Rattle.std.specs.Prelude.{◌≡◌, ◌+◌, ◌<◌, ℕ, zero, suc, List, [], ◌∷◌, ◌++◌, Some, drop, slice_get, length}
use Rattle.macro_rules.specs.Writings.{level, step, nothing_written}
use Rattle.macro_rules.specs.Written.{Written}
use Rattle.macro_rules.specs.declared.row.Row.{Row}
use Rattle.macro_rules.specs.declared.token.Token.{Token}
use Rattle.macro_rules.specs.declared.visits.Visit.{Visit}
use Rattle.macro_rules.specs.declared.writing.Leader.{Leader}
use Rattle.macro_rules.specs.declared.writing.Level.{Level}

-- what was written in so many steps
abbrev pub written_in : List Row → List Row → List (List Visit) → List Token → ℕ → Written
written_in rows matcher table input zero = nothing_written (length matcher)
written_in rows matcher table input (suc n) = step rows matcher table input (written_in rows matcher table input n)

-- each repetition of the matcher that leads one has as many iterations
abbrev pub HasIterations : List Leader → ℕ → Type 0
HasIterations leaders n = (i : ℕ) (leader : Leader) → slice_get leaders i ≡ Some leader → leader.count ≡ n

-- what a step does with the repetitions that are open
pub data Turns (before behind : Written) : Type 0 where
  -- they stay as they are
  stay : behind.levels ≡ before.levels → Turns before behind
  -- one begins, at the first of as many iterations as those have that lead it
  begin : (l : Level) → l.index ≡ 0 → 0 < l.count → HasIterations (drop l.leaders behind.leaders) l.count → behind.levels ≡ before.levels ++ l ∷ [] → Turns before behind
  -- the innermost goes on with the next of its iterations
  go_on : (ls : List Level) (l : Level) → before.levels ≡ ls ++ l ∷ [] → l.index + 1 < l.count → behind.levels ≡ ls ++ level l.begin (l.index + 1) l.count l.leaders ∷ [] → Turns before behind
  -- the innermost ends, with the last of them
  end : (ls : List Level) (l : Level) → before.levels ≡ ls ++ l ∷ [] → l.index + 1 ≡ l.count → behind.levels ≡ ls → Turns before behind

-- a repetition is written as often as it is captured: each step begins it, or goes on with it, or ends it so
abbrev pub RepeatsAsCaptured : Type 0
RepeatsAsCaptured =
    (rows matcher : List Row) (table : List (List Visit)) (input : List Token) (n : ℕ) → Turns (written_in rows matcher table input n) (written_in rows matcher table input (suc n))
