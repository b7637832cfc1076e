use Rattle.std.proofs.Common.{◌∙◌, ap}
use Rattle.macro_rules.specs.Fragments.{goal_move}
use Rattle.macro_rules.proofs.Turned.{last_goal, goals_before, read_step}
use Rattle.macro_rules.proofs.fragments.goal_len.Goals as goal

pub loop-left-preserved : goal.loop-left-preserved
loop-left-preserved c = record {
  within = c.place_behind-place.ensures.within;
  same = read_step c.args.tokens.now c.loop-left.left c.loop-left.place c.place_behind-place.result c.loop-left.goals.items c.pop.new.self.items c.push-in-Some.new.goals.items c.in-Some.next c.goal_move-step.result
      c.loop-left-test.true (last_goal c.loop-left.goals.items c.pop.new.self.items c.in-Some.next c.in-Some.ensures.items)
      (goals_before c.loop-left.goals.items c.pop.new.self.items c.in-Some.next c.in-Some.ensures.items)
      (c.goal_move-step.ensures ∙ ap (λ ts. goal_move c.in-Some.next ts) c.behind.ensures) c.in_ok-push-in-Some.ensures c.place_behind-place.ensures.exact ∙ c.loop-left.invariant.same;
}
