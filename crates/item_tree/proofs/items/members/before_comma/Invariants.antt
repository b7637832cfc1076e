use Rattle.std.proofs.Common.{◌≡◌, ◌+◌, ◌-◌, ◌≤◌, length, drop}
use Rattle.item_tree.specs.Heads.{nothing}
use Rattle.item_tree.specs.Members.{before_comma, start}
use Rattle.item_tree.proofs.items.members.before_comma.Given as goal

abbrev pub invariant-loop-at : goal.invariant-loop-at
invariant-loop-at l = record {
  in_range : l.at ≤ length l.trees;
  small : l.nesting.depth ≤ l.at;
  counted : l.at + before_comma l.lexemes l.nesting l.before (drop l.at l.trees) ≡ before_comma l.lexemes start nothing l.trees;
}

abbrev pub decreases-loop-at : goal.decreases-loop-at
decreases-loop-at l = length l.trees - l.at
