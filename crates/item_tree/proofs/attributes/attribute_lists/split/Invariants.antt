use Rattle.std.proofs.Common.{◌≡◌, ◌+◌, ◌≤◌, ◌++◌, drop}
use Rattle.item_tree.specs.AttributeLists as spec
use Rattle.item_tree.proofs.attributes.attribute_lists.split.Given as goal

abbrev pub invariant-loop-i : goal.invariant-loop-i
invariant-loop-i l = record {
  small : l.depth ≤ l.i;
  begun : l.items.items ++ spec.split l.start l.depth (l.before + l.i) (drop l.i l.list) ≡ spec.split l.before 0 l.before l.list;
}
