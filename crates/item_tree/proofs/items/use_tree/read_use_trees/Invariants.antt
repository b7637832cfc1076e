use Rattle.std.proofs.Common.{◌≡◌, ◌-◌, drop}
use Rattle.item_tree.specs.UseTrees.{use_trees_from, use_trees_of}
use Rattle.item_tree.proofs.items.use_tree.read_use_trees.Given as goal

abbrev pub invariant-loop-at : goal.invariant-loop-at
invariant-loop-at l = record {
  read : use_trees_from l.range.behind l.trees.items l.parent 0 l.at (drop l.at l.lexemes) ≡ use_trees_of l.lexemes l.range;
}

abbrev pub decreases-loop-at : goal.decreases-loop-at
decreases-loop-at l = l.range.behind - l.at
