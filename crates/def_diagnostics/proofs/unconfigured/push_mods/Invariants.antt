use Rattle.std.proofs.Common.{◌≡◌, ◌++◌, drop}
use Rattle.std.specs.List.{flat_map}
use Rattle.def_diagnostics.specs.Unconfigured.{of_mod}
use Rattle.def_diagnostics.proofs.unconfigured.push_mods.Given as goal

abbrev pub invariant-loop-item : goal.invariant-loop-item
invariant-loop-item l =
    l.found.items ++ flat_map (of_mod l.mods) (drop l.item-index l.items) ≡ l.fn.found.items ++ flat_map (of_mod l.mods) l.items
