use Rattle.std.proofs.Common.{◌≡◌, ◌≤◌, length}
use Rattle.macro_rules.specs.Threads.{closed}
use Rattle.macro_rules.proofs.matching.close.Given as goal

abbrev pub invariant-loop-left : goal.invariant-loop-left
invariant-loop-left l = record {
  below : l.from ≤ length l.log.items;
  grown : length l.fn.log.items ≤ length l.log.items;
  same : closed l.rows l.from l.place l.left l.at l.log.items ≡ closed l.rows l.from l.place l.steps l.from l.fn.log.items;
}

abbrev pub decreases-loop-left : goal.decreases-loop-left
decreases-loop-left l = l.left
