use Rattle.std.proofs.Common.{◌≡◌, ◌++◌, drop}
use Rattle.std.specs.List.{flat_map}
use Rattle.def_diagnostics.specs.MacroCalls.{known_home}
use Rattle.def_diagnostics.proofs.macro_calls.known_homes.Given as goal

abbrev pub invariant-loop-call : goal.invariant-loop-call
invariant-loop-call l = l.homes.items ++ flat_map known_home (drop l.call-index l.calls) ≡ flat_map known_home l.calls
