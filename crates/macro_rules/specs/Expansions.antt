-- What a macro makes of a call.
use Rattle.std.specs.Prelude.{◌+◌, ℕ, Bool, true, false, List, [], ◌∷◌, Option, Some, None, length, if◌then◌else◌}
use Rattle.macro_rules.specs.Expanded.{Expanded}
use Rattle.macro_rules.specs.RuleRows.{RuleRows}
use Rattle.macro_rules.specs.Visits.{visits}
use Rattle.macro_rules.specs.Walks.{Walked, walk}
use Rattle.macro_rules.specs.Writings.{transcribed}
use Rattle.macro_rules.specs.Written.{Written}
use Rattle.macro_rules.specs.declared.expand.ExpandFault.{ExpandFault}
use Rattle.macro_rules.specs.declared.expand.ExpandFault.TheVariants as fault
use Rattle.macro_rules.specs.declared.expand.Limits.{Limits}
use Rattle.macro_rules.specs.declared.matching.Outcome.{Outcome}
use Rattle.macro_rules.specs.declared.matching.Outcome.TheVariants as outcome
use Rattle.macro_rules.specs.declared.matching.Thread.{Thread}
use Rattle.macro_rules.specs.declared.token.Token.{Token}
use Rattle.macro_rules.specs.declared.writing.WriteFault.{WriteFault}

abbrev pub without : ExpandFault → Expanded
without f = record { tokens = []; fault = Some f }

abbrev pub by_fault : Option WriteFault → List Token → Expanded
by_fault None tokens = record { tokens = tokens; fault = None }
by_fault (Some f) tokens = without (fault.Unwritten f)

-- what was written, or why it was not
abbrev pub of : Written → Expanded
of w = by_fault w.fault w.tokens

-- what the transcriber of a rule writes, where its matcher matched by the thread of a number
unfoldable pub written : RuleRows → List Thread → ℕ → List Token → ℕ → Expanded
written r log last call steps = of (transcribed r.transcriber r.matcher (visits log last (length call) (length r.matcher)) call steps)

abbrev pub by_outcome : RuleRows → List Token → Limits → List Thread → Outcome → Expanded
by_outcome r call limits log (outcome.Matches last) = written r log last call limits.steps
by_outcome r call limits log (outcome.Fails place) = without fault.NoRule
by_outcome r call limits log (outcome.Ambiguous place) = without (fault.Ambiguous place)
by_outcome r call limits log (outcome.BadFragment place) = without (fault.BadFragment place)
by_outcome r call limits log outcome.TooLong = without fault.TooLong

abbrev pub by_walk : RuleRows → List Token → Limits → Walked → Expanded
by_walk r call limits w = by_outcome r call limits w.log w.outcome

-- what a rule makes of a call: `NoRule` where it does not match
unfoldable pub applied : List ℕ → RuleRows → List Token → Limits → Expanded
applied bytes r call limits = by_walk r call limits (walk bytes r.matcher call (length r.matcher + length r.matcher + 2) limits.turns)

abbrev pub hands_on : Option ExpandFault → Bool
hands_on (Some fault.NoRule) = true
hands_on _ = false

-- the first rule that does not fail counts: an ambiguous call, and a fragment that cannot be read, are not handed on
abbrev pub expanded : List ℕ → List RuleRows → List Token → Limits → Expanded
expanded bytes [] call limits = without fault.NoRule
expanded bytes (r ∷ rules) call limits = if hands_on (applied bytes r call limits).fault then expanded bytes rules call limits else applied bytes r call limits
