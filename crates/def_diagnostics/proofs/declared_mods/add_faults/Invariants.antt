use Rattle.std.proofs.Common.{◌≡◌, drop}
use Rattle.std.specs.Prelude.{fold}
use Rattle.def_diagnostics.specs.DeclaredMods.{with_fault}
use Rattle.def_diagnostics.proofs.declared_mods.add_faults.Given as goal

abbrev pub invariant-loop-fault : goal.invariant-loop-fault
invariant-loop-fault l = fold with_fault l.items.keys (drop l.fault-index l.faults) ≡ fold with_fault l.fn.items.keys l.faults
