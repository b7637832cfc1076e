use Rattle.std.proofs.Common.{◌∙◌, sym}
use Rattle.macro_rules.proofs.Counted.{steps_step}
use Rattle.macro_rules.proofs.writing.transcribing.transcribe.Goals as goal

pub loop-left-preserved : goal.loop-left-preserved
loop-left-preserved c =
    steps_step c.args.rows.now c.args.matcher.now c.args.table.now c.args.input.now c.loop-left.left c.loop-left.writing _ c.loop-left-test.true (sym c.is_done.ensures ∙ c.if-not-is_done.true) c.in_ok-step.ensures ∙ c.loop-left.invariant
