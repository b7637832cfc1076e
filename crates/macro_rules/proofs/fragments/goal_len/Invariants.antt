use Rattle.std.proofs.Common.{◌≡◌, ◌≤◌, length}
use Rattle.macro_rules.specs.Fragments.{goals_read, goal_len}
use Rattle.macro_rules.proofs.fragments.goal_len.Given as goal

abbrev pub invariant-loop-left : goal.invariant-loop-left
invariant-loop-left l = record {
  within : l.place ≤ length l.tokens;
  same : goals_read l.left l.tokens l.goals.items l.place ≡ goal_len l.fn.goal l.tokens;
}

abbrev pub decreases-loop-left : goal.decreases-loop-left
decreases-loop-left l = l.left
