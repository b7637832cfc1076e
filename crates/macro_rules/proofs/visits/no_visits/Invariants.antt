use Rattle.std.proofs.Common.{◌≡◌, ◌++◌}
use Rattle.macro_rules.specs.Visits.{no_visits}
use Rattle.macro_rules.proofs.visits.no_visits.Given as goal

abbrev pub invariant-loop-left : goal.invariant-loop-left
invariant-loop-left l = l.table.items ++ no_visits l.left ≡ no_visits l.rows

abbrev pub decreases-loop-left : goal.decreases-loop-left
decreases-loop-left l = l.left
