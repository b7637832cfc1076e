use Rattle.std.proofs.Common.{◌∙◌, ◌-◌, Some, sym, ap}
use Rattle.macro_rules.specs.Writings.{found_from}
use Rattle.macro_rules.proofs.Counted.{found_step}
use Rattle.macro_rules.proofs.writing.find_leader.Goals as goal

pub loop-left-preserved : goal.loop-left-preserved
loop-left-preserved c =
    ap (λ o. found_from c.args.matcher.now c.args.current.now (c.loop-left.left - 1) (Some c.in-Some.begin) o) c.outside-around.ensures
    ∙ (found_step c.args.matcher.now c.args.current.now c.loop-left.left c.loop-left.found c.loop-left.around c.in-Some.begin c.loop-left-test.true c.in-Some.is (sym c.is_led.ensures ∙ c.if-is_led.false)
    ∙ c.loop-left.invariant)
