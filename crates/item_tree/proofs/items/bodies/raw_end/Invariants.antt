use Rattle.std.proofs.Common.{◌≡◌, ◌++◌, ◌≤◌, ℕ, List, take}
use Rattle.item_tree.specs.Shapes.{past_raw}
use Rattle.item_tree.proofs.items.bodies.raw_end.Given as goal

abbrev pub invariant-loop-i : goal.invariant-loop-i
invariant-loop-i l = record {
  small : l.matched ≤ l.i;
  checked : (q : List ℕ) → past_raw l.hashes 0 (take l.i l.text ++ q) ≡ past_raw l.hashes l.matched q;
}
