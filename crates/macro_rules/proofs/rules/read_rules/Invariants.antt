use Rattle.std.proofs.Common.{◌≡◌, length}
use Rattle.macro_rules.specs.Rules.{rules_from, no_rules}
use Rattle.macro_rules.proofs.rules.read_rules.Given as goal

abbrev pub invariant-loop-left : goal.invariant-loop-left
invariant-loop-left l = rules_from l.home l.bytes l.tokens l.left l.at l.rules ≡ rules_from l.home l.bytes l.tokens (length l.tokens) 0 no_rules

abbrev pub decreases-loop-left : goal.decreases-loop-left
decreases-loop-left l = l.left
