use Rattle.std.proofs.Common.{◌≡◌, ◌++◌, drop}
use Rattle.std.specs.Prelude.{map}
use Rattle.def_diagnostics.specs.TakenNames.{taken_in}
use Rattle.def_diagnostics.proofs.taken_names.names_in.Given as goal

abbrev pub invariant-loop-namespace : goal.invariant-loop-namespace
invariant-loop-namespace l = l.names.items ++ map (taken_in l.home l.name) (drop l.namespace-index l.namespaces) ≡ map (taken_in l.home l.name) l.namespaces
