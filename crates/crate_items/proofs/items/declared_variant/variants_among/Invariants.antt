use Rattle.std.proofs.Common.{◌≡◌, ◌++◌, drop}
use Rattle.std.specs.List.{flat_map}
use Rattle.crate_items.specs.DeclaredVariants.{variant_of}
use Rattle.crate_items.proofs.items.declared_variant.variants_among.Given as goal

abbrev pub invariant-loop-member : goal.invariant-loop-member
invariant-loop-member l =
    l.found.items ++ flat_map (variant_of l.options l.text l.source l.outer) (drop l.member-index l.members) ≡ flat_map (variant_of l.options l.text l.source l.outer) l.members
