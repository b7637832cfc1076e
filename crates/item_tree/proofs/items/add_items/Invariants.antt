use Rattle.std.proofs.Common.{◌≡◌, ◌++◌, ◌-◌, ◌≤◌, length, drop}
use Rattle.item_tree.specs.Items.{items_from, items_of}
use Rattle.item_tree.proofs.items.add_items.Given as goal

abbrev pub invariant-loop-at : goal.invariant-loop-at
invariant-loop-at l = record {
  in_range : l.at ≤ length l.trees;
  read : l.items.items ++ items_from l.kind l.parent l.level.range.behind 0 (drop l.at l.trees) ≡ l.fn.items.items ++ items_of l.level.kind l.parent l.level.range.behind l.trees;
}

abbrev pub decreases-loop-at : goal.decreases-loop-at
decreases-loop-at l = length l.trees - l.at
