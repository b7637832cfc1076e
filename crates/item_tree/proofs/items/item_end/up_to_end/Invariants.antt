use Rattle.std.proofs.Common.{◌≡◌, ◌-◌, ◌≤◌, false, length, drop}
use Rattle.item_tree.specs.Heads.{nothing}
use Rattle.item_tree.specs.ItemEnds.{up_to_end}
use Rattle.item_tree.proofs.UpToEnd.{pending}
use Rattle.item_tree.proofs.items.item_end.up_to_end.Given as goal

abbrev pub invariant-loop-at : goal.invariant-loop-at
invariant-loop-at l = record {
  in_range : l.at ≤ length l.trees;
  own_in_range : l.own ≤ l.at;
  small : l.depth ≤ l.at;
  counted : pending l.item l.own l.at l.before l.depth l.calls (drop l.at l.trees) ≡ up_to_end l.item nothing 0 false l.trees;
}

abbrev pub decreases-loop-at : goal.decreases-loop-at
decreases-loop-at l = length l.trees - l.at
