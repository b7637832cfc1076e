use Rattle.std.proofs.Common.{◌≡◌, ◌++◌, drop}
use Rattle.std.specs.List.{flat_map}
use Rattle.def_diagnostics.specs.MacroCalls.{unresolved_macro_call}
use Rattle.def_diagnostics.proofs.macro_calls.unresolved_macro_calls.Given as goal

abbrev pub invariant-loop-call : goal.invariant-loop-call
invariant-loop-call l =
    l.found.items ++ flat_map unresolved_macro_call (drop l.call-index l.calls) ≡ flat_map unresolved_macro_call l.calls
