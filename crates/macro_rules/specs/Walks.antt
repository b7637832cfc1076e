-- What a rule makes of the tokens of a call.
use Rattle.std.specs.Prelude.{◌+◌, ◌-◌, ◌≤◌, ℕ, zero, suc, List, [], ◌∷◌, Option, Some, None, drop, slice_get, length}
use Rattle.macro_rules.specs.Threads as spec
use Rattle.macro_rules.specs.declared.matching.Outcome.{Outcome}
use Rattle.macro_rules.specs.declared.matching.Outcome.TheVariants as outcome
use Rattle.macro_rules.specs.declared.matching.Thread.{Thread}
use Rattle.macro_rules.specs.declared.matching.Turn.{Turn}
use Rattle.macro_rules.specs.declared.matching.Turn.TheVariants as turn
use Rattle.macro_rules.specs.declared.row.Row.{Row}
use Rattle.macro_rules.specs.declared.token.Token.{Token}
use Rattle.macro_rules.specs.declared.walk.Step.{Step}
use Rattle.macro_rules.specs.declared.walk.Step.TheVariants.{Ends, GoesOn}

abbrev pub goes_on : ℕ → ℕ → Step
goes_on from place = GoesOn from place

abbrev pub reads_on : ℕ → ℕ → Option ℕ → Step
reads_on from place None = Ends (outcome.BadFragment place)
reads_on from place (Some end) = GoesOn from end

-- all threads that there are by now, and what those at the place did
pub record Progress : Type 0 where
  pub log : List Thread
  pub step : Step

abbrev pub BeginsWithin : ℕ → Step → Type 0
BeginsWithin n (Ends o) = Unit {0}
BeginsWithin n (GoesOn from place) = from ≤ n

abbrev pub by_token : List ℕ → List Row → ℕ → ℕ → Token → List Thread → Progress
by_token bytes rows from place x log = record {
  log = spec.taken bytes rows x (length log) (place + 1) (length log - from) from log;
  step = GoesOn (length log) (place + 1);
}

abbrev pub by_fragment : List Row → ℕ → ℕ → List Token → List Thread → Progress
by_fragment rows reader place ts log = record {
  log = spec.with_reader rows place ts reader (slice_get log reader) log;
  step = reads_on (length log) place (spec.fragment_end rows place ts (slice_get log reader));
}

-- a token is taken, or a fragment read, by what the threads at the place do
unfoldable pub by_turn : List ℕ → List Row → List Token → ℕ → ℕ → Token → Turn → List Thread → Progress
by_turn bytes rows rest from place x turn.Fails log = record { log = log; step = Ends (outcome.Fails place) }
by_turn bytes rows rest from place x turn.Ambiguous log = record { log = log; step = Ends (outcome.Ambiguous place) }
by_turn bytes rows rest from place x turn.Takes log = by_token bytes rows from place x log
by_turn bytes rows rest from place x (turn.Reads reader) log = by_fragment rows (from + reader) place rest log

abbrev pub advanced_at : List ℕ → List Row → List Token → ℕ → ℕ → Option Token → List Thread → Progress
advanced_at bytes rows rest from place None log = record { log = log; step = Ends (spec.at_end (length rows) from place (drop from log)) }
advanced_at bytes rows rest from place (Some x) log = by_turn bytes rows rest from place x (spec.turn_at bytes rows rest (drop from log) x) log

-- what the threads from a number on do at a place of the input
abbrev pub advanced : List ℕ → List Row → List Token → ℕ → ℕ → List Thread → Progress
advanced bytes rows ts from place log = advanced_at bytes rows (drop place ts) from place (slice_get ts place) log

-- all threads, and how it ended
pub record Walked : Type 0 where
  pub log : List Thread
  pub outcome : Outcome

abbrev pub by_step : Step → List Thread → (ℕ → ℕ → List Thread → Walked) → Walked
by_step (Ends o) log further = record { log = log; outcome = o }
by_step (GoesOn from place) log further = further from place log

abbrev pub after : Progress → (ℕ → ℕ → List Thread → Walked) → Walked
after p further = by_step p.step p.log further

-- so many turns, each of which closes the threads at a place and goes on from there
abbrev pub walked : List ℕ → List Row → List Token → ℕ → ℕ → ℕ → ℕ → List Thread → Walked
walked bytes rows ts steps zero from place log = record { log = log; outcome = outcome.TooLong }
walked bytes rows ts steps (suc n) from place log =
    after (advanced bytes rows ts from place (spec.closed rows from place steps from log)) (walked bytes rows ts steps n)

-- from one thread at the begin of the matcher and of the input
abbrev pub walk : List ℕ → List Row → List Token → ℕ → ℕ → Walked
walk bytes rows ts steps turns = walked bytes rows ts steps turns 0 0 (spec.thread_at 0 0 0 ∷ [])
