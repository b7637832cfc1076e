use Rattle.std.proofs.Common.{◌≡◌, ◌++◌, drop}
use Rattle.std.specs.List.{flat_map}
use Rattle.def_diagnostics.specs.ExternCrates.{unresolved_extern_crate}
use Rattle.def_diagnostics.proofs.extern_crates.unresolved_extern_crates.Given as goal

abbrev pub invariant-loop-item : goal.invariant-loop-item
invariant-loop-item l =
    l.found.items ++ flat_map (unresolved_extern_crate l.list l.files l.dependencies) (drop l.item-index l.items) ≡ flat_map (unresolved_extern_crate l.list l.files l.dependencies) l.items
