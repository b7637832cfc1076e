use Rattle.std.proofs.Common.{◌≡◌, ◌++◌}
use Rattle.macro_rules.specs.Visits.{passages, passages_of}
use Rattle.macro_rules.proofs.visits.passages.Given as goal

abbrev pub invariant-loop-left : goal.invariant-loop-left
invariant-loop-left l = l.found.items ++ passages_of l.log l.left l.at l.behind ≡ passages l.log l.last l.place

abbrev pub decreases-loop-left : goal.decreases-loop-left
decreases-loop-left l = l.left
