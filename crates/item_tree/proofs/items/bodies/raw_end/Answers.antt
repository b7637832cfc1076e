use Rattle.std.proofs.Common.{arith}
use Rattle.item_tree.specs.Shapes.{past_raw}
use Rattle.item_tree.proofs.ByteByByte.{at_the_end}
use Rattle.item_tree.proofs.items.bodies.raw_end.Goals as goal

pub returns-clause-open : goal.returns-clause-open
returns-clause-open c = at_the_end (past_raw c.args.hashes 0) (past_raw c.args.hashes c.loop-i.matched) c.args.text.now c.loop-i.i (omega arith) c.loop-i.invariant.checked
