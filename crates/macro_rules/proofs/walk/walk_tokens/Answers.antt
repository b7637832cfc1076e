use Rattle.std.proofs.Common.{◌∙◌, length, subst}
use Rattle.macro_rules.specs.Walks.{BeginsWithin}
use Rattle.macro_rules.proofs.Stepped.{walked_step}
use Rattle.macro_rules.proofs.walk.walk_tokens.Goals as goal

pub loop-left-preserved : goal.loop-left-preserved
loop-left-preserved c = record {
  within = subst (BeginsWithin (length c.advance.new.log.items)) c.in-GoesOn.is c.in_ok-outcome.ensures.within;
  same = walked_step c.args.bytes.now c.args.rows.now c.args.tokens.now c.args.steps c.loop-left.left c.loop-left.from c.loop-left.place c.in-GoesOn.next c.in-GoesOn.end c.loop-left.log.items c.close.new.log.items _ _
      c.loop-left-test.true c.in_ok-close.ensures.ok c.in_ok-outcome.ensures.step c.in-GoesOn.is c.in_ok-outcome.ensures.ok ∙ c.loop-left.invariant.same;
}
