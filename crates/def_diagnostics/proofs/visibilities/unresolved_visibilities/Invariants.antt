use Rattle.std.proofs.Common.{◌≡◌, ◌++◌, drop}
use Rattle.std.specs.List.{flat_map}
use Rattle.def_diagnostics.specs.Visibilities.{unresolved_visibility}
use Rattle.def_diagnostics.proofs.visibilities.unresolved_visibilities.Given as goal

abbrev pub invariant-loop-item : goal.invariant-loop-item
invariant-loop-item l = l.found.items ++ flat_map unresolved_visibility (drop l.item-index l.items) ≡ flat_map unresolved_visibility l.items
