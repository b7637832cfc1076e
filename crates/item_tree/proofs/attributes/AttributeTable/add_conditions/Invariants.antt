use Rattle.std.proofs.Common.{◌≡◌, drop}
use Rattle.item_tree.specs.Attributes.{with_conditions}
use Rattle.item_tree.proofs.attributes.AttributeTable.add_conditions.Given as goal

abbrev pub invariant-loop-place : goal.invariant-loop-place
invariant-loop-place l = with_conditions l.text l.lexemes (drop l.place-index l.places) l.self ≡ with_conditions l.text l.lexemes l.places l.fn.self
