-- How a matcher, as a grammar, parses the tokens of a call: one way through its positions, with no word of threads.
use Rattle.std.specs.Prelude.{◌≡◌, ◌+◌, ◌≤◌, ℕ, true, List, [], ◌∷◌, Some, drop, slice_get, length}
use Rattle.macro_rules.specs.Threads as thread
use Rattle.macro_rules.specs.Threads.{ways_from, behind_token, variable_len}
use Rattle.macro_rules.specs.Visits.{passages}
use Rattle.macro_rules.specs.declared.matching.Outcome.{Outcome}
use Rattle.macro_rules.specs.declared.matching.Outcome.TheVariants as outcome
use Rattle.macro_rules.specs.declared.matching.Thread.{Thread}
use Rattle.macro_rules.specs.declared.row.Row.{Row}
use Rattle.macro_rules.specs.declared.token.Token.{Token}
use Rattle.macro_rules.specs.declared.visits.Passage.{Passage}

abbrev pub took : ℕ → ℕ → ℕ → Passage
took r first behind = record { row = r; first = first; behind = behind }

-- one step of a parse, from a position at a place of the input to another position at another place
pub data Steps (bytes : List ℕ) (rows : List Row) (ts : List Token) : ℕ → ℕ → ℕ → ℕ → Type 0 where
  -- the next position, without a token: into a repetition, on in it, or out of it
  goes_on : {r s p : ℕ} → (ways_from (slice_get rows r) r).next ≡ Some s → Steps bytes rows ts r p s p
  -- another one, without a token: past a repetition, or back into it
  turns : {r s p : ℕ} → (ways_from (slice_get rows r) r).other ≡ Some s → Steps bytes rows ts r p s p
  -- the one behind a token that equals the one that stands there
  takes : {r s p : ℕ} {x : Token} → slice_get ts p ≡ Some x → behind_token bytes x (slice_get rows r) r ≡ Some s → Steps bytes rows ts r p s (p + 1)
  -- the one behind a variable: its fragment begins there, and goes so far
  reads : {r p n : ℕ} {x : Token} → slice_get ts p ≡ Some x → thread.reads (slice_get rows r) (drop p ts) ≡ true → variable_len (slice_get rows r) (drop p ts) ≡ Some n → Steps bytes rows ts r p (r + 1) (p + n)

-- a position is reached at a place of the input; what the positions before it took, the last first
pub data Reaches (bytes : List ℕ) (rows : List Row) (ts : List Token) : ℕ → ℕ → List Passage → Type 0 where
  begins : Reaches bytes rows ts 0 0 []
  steps : {r p s q : ℕ} {ps : List Passage} → Reaches bytes rows ts r p ps → Steps bytes rows ts r p s q → Reaches bytes rows ts s q (took r p q ∷ ps)

-- the whole input is parsed, and that is what each position took: the end of the matcher is reached behind the last token
pub record Parses (bytes : List ℕ) (rows : List Row) (ts : List Token) (ps : List Passage) : Type 0 where
  pub place : ℕ
  pub before : List Passage
  pub reached : Reaches bytes rows ts (length rows) place before
  pub whole : length ts ≤ place
  pub are : ps ≡ took (length rows) place (length ts) ∷ before

-- what matches is parsed: what the threads took is a parse
abbrev pub IsParsed : List ℕ → List Row → List Token → List Thread → Outcome → Type 0
IsParsed bytes rows ts log (outcome.Matches last) = Parses bytes rows ts (passages log last (length ts))
IsParsed bytes rows ts log _ = Unit {0}

-- what matches has one parse, and what fails has none; of an ambiguous call nothing is said
abbrev pub IsOnly : List Token → List Passage → List Thread → Outcome → Type 0
IsOnly ts ps log (outcome.Matches last) = ps ≡ passages log last (length ts)
IsOnly ts ps log (outcome.Fails place) = ⊥
IsOnly ts ps log _ = Unit {0}
