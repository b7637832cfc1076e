use Rattle.std.proofs.Common.{◌≡◌, ◌++◌, drop}
use Rattle.std.specs.List.{flat_map}
use Rattle.crate_items.specs.DeclaredFields.{field_of}
use Rattle.crate_items.proofs.items.declared_field.fields_among.Given as goal

abbrev pub invariant-loop-member : goal.invariant-loop-member
invariant-loop-member l =
    l.found.items ++ flat_map (field_of l.options l.text l.source l.outer l.kind) (drop l.member-index l.members) ≡ flat_map (field_of l.options l.text l.source l.outer l.kind) l.members
