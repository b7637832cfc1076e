use Rattle.std.proofs.Common.{◌≡◌, ◌++◌, drop}
use Rattle.std.specs.Prelude.{map}
use Rattle.def_diagnostics.specs.ModuleFaults.{unresolved_module}
use Rattle.def_diagnostics.proofs.module_faults.unresolved_modules.Given as goal

abbrev pub invariant-loop-fault : goal.invariant-loop-fault
invariant-loop-fault l =
    l.found.items ++ map unresolved_module (drop l.fault-index l.list.faults) ≡ map unresolved_module l.list.faults
