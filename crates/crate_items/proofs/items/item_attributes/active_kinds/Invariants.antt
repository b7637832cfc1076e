use Rattle.std.proofs.Common.{◌≡◌, ◌++◌, drop}
use Rattle.std.specs.List.{flat_map}
use Rattle.crate_items.specs.ItemAttributes.{active_kind}
use Rattle.crate_items.proofs.items.item_attributes.active_kinds.Given as goal

abbrev pub invariant-loop-attribute : goal.invariant-loop-attribute
invariant-loop-attribute l =
    l.kinds.items ++ flat_map (active_kind l.active) (drop l.attribute-index l.attributes) ≡ flat_map (active_kind l.active) l.attributes
