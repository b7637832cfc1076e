use Rattle.std.proofs.Common.{◌≡◌, ◌++◌, drop}
use Rattle.std.specs.List.{flat_map}
use Rattle.def_diagnostics.specs.Unconfigured.{of_module}
use Rattle.def_diagnostics.proofs.unconfigured.of_files.Given as goal

abbrev pub invariant-loop-outer : goal.invariant-loop-outer
invariant-loop-outer l =
    l.found.items ++ flat_map (of_module l.list) (drop l.outer-index l.list.modules) ≡ flat_map (of_module l.list) l.list.modules
