use Rattle.std.proofs.Common.{◌≡◌, ◌++◌}
use Rattle.def_diagnostics.specs.MapDiagnostics.{with_all}
use Rattle.def_diagnostics.proofs.map_diagnostics.add_all.Given as goal

abbrev pub invariant-loop-diagnostic : goal.invariant-loop-diagnostic
invariant-loop-diagnostic l =
    (l.world ≡ with_all l.fn.world l.map l.yielded)
    × (l.yielded ++ l.diagnostic-iterator.rest.items ≡ l.fn.diagnostics.items)
