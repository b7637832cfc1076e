use Rattle.std.proofs.Common.{◌≡◌, drop}
use Rattle.macro_rules.specs.Expansions.{expanded}
use Rattle.macro_rules.proofs.expand.expand.Given as goal

abbrev pub invariant-loop-rule : goal.invariant-loop-rule
invariant-loop-rule l = expanded l.bytes (drop l.rule-index l.rules) l.call l.limits ≡ expanded l.bytes l.rules l.call l.limits
