use Rattle.std.proofs.Common.{arith, false}
use Rattle.item_tree.specs.Shapes.{past_quote}
use Rattle.item_tree.proofs.ByteByByte.{at_the_end}
use Rattle.item_tree.proofs.items.bodies.quote_end.Goals as goal

pub returns-clause-open : goal.returns-clause-open
returns-clause-open c = at_the_end (past_quote c.args.quote false) (past_quote c.args.quote c.loop-i.escaped) c.args.text.now c.loop-i.i (omega arith) c.loop-i.invariant
