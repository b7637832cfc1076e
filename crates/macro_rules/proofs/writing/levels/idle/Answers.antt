use Rattle.std.proofs.Common.{◌∙◌, None, refl}
use Rattle.macro_rules.specs.Writings.{idle}
use Rattle.macro_rules.proofs.Passed.{made_step}
use Rattle.macro_rules.proofs.writing.levels.idle.Goals as goal

pub loop-left-preserved : goal.loop-left-preserved
loop-left-preserved c =
    made_step idle None c.loop-left.left c.loop-left.current.items c.push.new.self.items (λ k. refl) c.loop-left-test.true c.in_ok-push.ensures.items ∙ c.loop-left.invariant
