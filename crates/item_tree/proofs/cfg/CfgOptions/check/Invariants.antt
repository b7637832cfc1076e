use Rattle.std.proofs.Common.{◌≡◌, None, drop}
use Rattle.item_tree.specs.Cfg.{value_of}
use Rattle.item_tree.proofs.cfg.CfgOptions.check.Given as goal

abbrev pub invariant-loop-node : goal.invariant-loop-node
invariant-loop-node l =
    value_of l.self l.text l.value l.settled (drop l.node-index l.nodes) ≡ value_of l.self l.text None None l.nodes
