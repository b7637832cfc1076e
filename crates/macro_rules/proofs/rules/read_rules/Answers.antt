use Rattle.std.proofs.Common.{◌∙◌}
use Rattle.macro_rules.proofs.Counted.{rules_step}
use Rattle.macro_rules.proofs.rules.read_rules.Goals as goal

pub loop-left-preserved : goal.loop-left-preserved
loop-left-preserved c =
    rules_step c.args.home c.args.bytes.now c.args.tokens.now c.loop-left.left c.loop-left.at _ c.loop-left.rules _ c.loop-left-test.true c.in_ok-at.ensures.next c.in_ok-at.ensures.ok ∙ c.loop-left.invariant
