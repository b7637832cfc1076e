use Rattle.std.proofs.Common.{arith}
use Rattle.item_tree.specs.Shapes.{past_comment}
use Rattle.item_tree.proofs.ByteByByte.{at_the_end}
use Rattle.item_tree.proofs.items.bodies.comment_end.Goals as goal

pub returns-clause-open : goal.returns-clause-open
returns-clause-open c = at_the_end (past_comment 0 0) (past_comment c.loop-i.depth c.loop-i.before) c.args.text.now c.loop-i.i (omega arith) c.loop-i.invariant.checked
