use Rattle.std.proofs.Common.{◌∙◌, arith}
use Rattle.macro_rules.proofs.Stepped.{taken_step}
use Rattle.macro_rules.proofs.matching.take_token.Goals as goal

pub loop-at-preserved : goal.loop-at-preserved
loop-at-preserved c = record {
  grown = omega arith;
  begun = c.loop-at.invariant.begun;
  same = taken_step c.args.bytes.now c.args.rows.now c.args.token c.len-behind.result c.args.place c.loop-at.at c.loop-at.log.items _ c.loop-at-test.true c.in_ok-take_one.ensures.ok ∙ c.loop-at.invariant.same;
}
