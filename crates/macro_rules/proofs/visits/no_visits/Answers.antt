use Rattle.std.proofs.Common.{◌∙◌, [], ◌∷◌, ◌++◌, refl, ap}
use Rattle.macro_rules.specs.Visits.{no_visits}
use Rattle.macro_rules.proofs.Passed.{made_step}
use Rattle.macro_rules.proofs.visits.no_visits.Goals as goal

pub loop-left-preserved : goal.loop-left-preserved
loop-left-preserved c =
    made_step no_visits [] c.loop-left.left c.loop-left.table.items c.push.new.self.items (λ k. refl) c.loop-left-test.true
    (c.in_ok-push.ensures.items ∙ ap (λ v. c.loop-left.table.items ++ v ∷ []) c.new.ensures)
    ∙ c.loop-left.invariant
