use Rattle.std.proofs.Common.{◌≡◌, drop}
use Rattle.item_tree.specs.ItemAttributes.{inner_end}
use Rattle.item_tree.proofs.attributes.item_attributes.inner_attributes.Given as goal

abbrev pub invariant-loop-item : goal.invariant-loop-item
invariant-loop-item l = inner_end l.behind (drop l.item-index l.items) ≡ inner_end l.first l.items
