use Rattle.std.proofs.Common.{◌≡◌, ◌≤◌, length, drop}
use Rattle.macro_rules.specs.Visits.{all_noted, no_visits}
use Rattle.macro_rules.proofs.visits.visits.Given as goal

abbrev pub invariant-loop-left : goal.invariant-loop-left
invariant-loop-left l = record {
  within : l.left ≤ length l.found.items;
  noted : l.table.items ≡ all_noted (drop l.left l.found.items) (no_visits l.rows);
}

abbrev pub decreases-loop-left : goal.decreases-loop-left
decreases-loop-left l = l.left
