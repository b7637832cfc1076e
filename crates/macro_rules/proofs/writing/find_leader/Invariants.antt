use Rattle.std.proofs.Common.{◌≡◌}
use Rattle.macro_rules.specs.Writings.{found_from, find_leader}
use Rattle.macro_rules.proofs.writing.find_leader.Given as goal

abbrev pub invariant-loop-left : goal.invariant-loop-left
invariant-loop-left l = found_from l.matcher l.current l.left l.found l.around ≡ find_leader l.matcher l.current l.fn.within

abbrev pub decreases-loop-left : goal.decreases-loop-left
decreases-loop-left l = l.left
