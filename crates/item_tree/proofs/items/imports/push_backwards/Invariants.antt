use Rattle.std.proofs.Common.{◌≡◌, ◌++◌, ◌≤◌, drop, length}
use Rattle.std.specs.Prelude.{reverse}
use Rattle.item_tree.specs.Imports.{segments_from}
use Rattle.item_tree.proofs.items.imports.push_backwards.Given as goal

abbrev pub invariant-loop-at : goal.invariant-loop-at
invariant-loop-at l = record {
  within : l.at ≤ length l.own;
  read : l.places.items ≡ l.initial.places.items ++ reverse (segments_from l.first l.at (drop l.at l.own));
}

abbrev pub decreases-loop-at : goal.decreases-loop-at
decreases-loop-at l = l.at
