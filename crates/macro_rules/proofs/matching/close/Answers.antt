use Rattle.std.proofs.Common.{◌∙◌, ◌<◌, length, arith}
use Rattle.macro_rules.proofs.Stepped.{closed_step}
use Rattle.macro_rules.proofs.matching.close.Goals as goal

pub loop-left-preserved : goal.loop-left-preserved
loop-left-preserved c =
    let within : c.loop-left.at < length c.loop-left.log.items = omega arith in
    record {
      below = omega arith;
      grown = omega arith;
      same = closed_step c.args.rows.now c.args.from c.args.place c.loop-left.left c.loop-left.at c.loop-left.log.items _ c.loop-left-test.true within c.in_ok-follow.ensures.ok ∙ c.loop-left.invariant.same;
    }
