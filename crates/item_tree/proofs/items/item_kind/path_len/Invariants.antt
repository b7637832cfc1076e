use Rattle.std.proofs.Common.{◌≡◌, ◌+◌, ◌-◌, ◌≤◌, length, drop}
use Rattle.item_tree.specs.ItemKinds.{path_len}
use Rattle.item_tree.specs.declared.items.item_kind.PathPart.TheVariants.{Start}
use Rattle.item_tree.proofs.items.item_kind.path_len.Given as goal

abbrev pub invariant-loop-at : goal.invariant-loop-at
invariant-loop-at l = record {
  in_range : l.at ≤ length l.trees;
  counted : l.at + path_len l.part (drop l.at l.trees) ≡ path_len Start l.trees;
}

abbrev pub decreases-loop-at : goal.decreases-loop-at
decreases-loop-at l = length l.trees - l.at
