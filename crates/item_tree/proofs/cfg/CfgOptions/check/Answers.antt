use Rattle.std.proofs.Common.{arith}
use Rattle.item_tree.proofs.CfgRows.{read_whole}
use Rattle.item_tree.proofs.cfg.CfgOptions.check.Goals as goal

pub returns-clause-tree : goal.returns-clause-tree
returns-clause-tree c e d is =
    read_whole c.args.self.now c.args.text.now c.loop-node.value c.loop-node.settled c.loop-node.node-index c.args.nodes.now (omega arith) c.loop-node.invariant e d is
