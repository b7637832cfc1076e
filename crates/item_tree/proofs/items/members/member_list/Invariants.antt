use Rattle.std.proofs.Common.{◌≡◌, ◌++◌, ◌-◌, ◌≤◌, length, drop}
use Rattle.item_tree.specs.Members.{members_from}
use Rattle.item_tree.proofs.items.members.member_list.Given as goal

abbrev pub invariant-loop-at : goal.invariant-loop-at
invariant-loop-at l = record {
  in_range : l.at ≤ length l.trees;
  read : l.members.items ++ members_from l.kind l.lexemes l.end 0 (drop l.at l.trees) ≡ members_from l.kind l.lexemes l.end 0 l.trees;
}

abbrev pub decreases-loop-at : goal.decreases-loop-at
decreases-loop-at l = length l.trees - l.at
