use Rattle.std.proofs.Common.{◌≡◌, ◌++◌}
use Rattle.macro_rules.specs.Writings.{idle}
use Rattle.macro_rules.proofs.writing.levels.idle.Given as goal

abbrev pub invariant-loop-left : goal.invariant-loop-left
invariant-loop-left l = l.current.items ++ idle l.left ≡ idle l.rows

abbrev pub decreases-loop-left : goal.decreases-loop-left
decreases-loop-left l = l.left
