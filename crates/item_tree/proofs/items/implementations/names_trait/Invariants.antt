use Rattle.std.proofs.Common.{◌≡◌, ◌-◌, ◌≤◌, length, drop}
use Rattle.item_tree.specs.Heads.{nothing}
use Rattle.item_tree.specs.Implementations.{names_trait}
use Rattle.item_tree.proofs.items.implementations.names_trait.Given as goal

abbrev pub invariant-loop-at : goal.invariant-loop-at
invariant-loop-at l = record {
  in_range : l.at ≤ length l.trees;
  small : l.depth ≤ l.at;
  rest : names_trait l.before l.depth (drop l.at l.trees) ≡ names_trait nothing 0 l.trees;
}

abbrev pub decreases-loop-at : goal.decreases-loop-at
decreases-loop-at l = length l.trees - l.at
