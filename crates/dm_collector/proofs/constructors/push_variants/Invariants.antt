use Rattle.std.proofs.Common.{◌≡◌, ◌++◌, drop}
use Rattle.std.specs.List.{flat_map}
use Rattle.dm_collector.specs.Constructors.{of_variant}
use Rattle.dm_collector.proofs.constructors.push_variants.Given as goal

abbrev pub invariant-loop-variant : goal.invariant-loop-variant
invariant-loop-variant l =
    l.found.items ++ flat_map (of_variant l.world l.krate l.e) (drop l.variant-index l.variants)
    ≡ l.fn.found.items ++ flat_map (of_variant l.world l.krate l.e) l.variants
