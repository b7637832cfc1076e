use Rattle.std.proofs.Common.{◌≡◌, ◌+◌, ◌-◌, ◌≤◌, length, drop}
use Rattle.item_tree.specs.Heads.{nothing, attributes_len}
use Rattle.item_tree.proofs.items.head.attributes_len.Given as goal

abbrev pub invariant-loop-at : goal.invariant-loop-at
invariant-loop-at l = record {
  in_range : l.at ≤ length l.trees;
  counted : l.at + attributes_len l.before (drop l.at l.trees) ≡ attributes_len nothing l.trees;
}

abbrev pub decreases-loop-at : goal.decreases-loop-at
decreases-loop-at l = length l.trees - l.at
