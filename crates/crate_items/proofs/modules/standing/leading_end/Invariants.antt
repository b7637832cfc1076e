use Rattle.std.proofs.Common.{◌≡◌, length}
use Rattle.crate_items.specs.Standings.{leading_end}
use Rattle.crate_items.proofs.modules.standing.leading_end.Given as goal

abbrev pub invariant-loop-rest : goal.invariant-loop-rest
invariant-loop-rest l = leading_end l.end l.rest ≡ leading_end l.first l.trees

abbrev pub decreases-loop-rest : goal.decreases-loop-rest
decreases-loop-rest l = length l.rest
