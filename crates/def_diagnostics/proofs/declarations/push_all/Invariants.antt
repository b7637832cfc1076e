use Rattle.std.proofs.Common.{◌≡◌, ◌++◌}
use Rattle.def_diagnostics.proofs.declarations.push_all.Given as goal

abbrev pub invariant-loop-diagnostic : goal.invariant-loop-diagnostic
invariant-loop-diagnostic l = l.found.items ≡ l.fn.found.items ++ l.yielded
