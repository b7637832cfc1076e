use Rattle.std.proofs.Common.{◌≡◌, ◌++◌, ◌≤◌, ℕ, List, take}
use Rattle.item_tree.specs.Shapes.{past_comment}
use Rattle.item_tree.proofs.items.bodies.comment_end.Given as goal

abbrev pub invariant-loop-i : goal.invariant-loop-i
invariant-loop-i l = record {
  small : l.depth ≤ l.i;
  checked : (q : List ℕ) → past_comment 0 0 (take l.i l.text ++ q) ≡ past_comment l.depth l.before q;
}
