use Rattle.std.proofs.Common.{◌≡◌, ◌++◌, drop}
use Rattle.std.specs.Prelude.{map}
use Rattle.def_diagnostics.specs.MacroCalls.{home_of}
use Rattle.def_diagnostics.proofs.macro_calls.homes.Given as goal

abbrev pub invariant-loop-call : goal.invariant-loop-call
invariant-loop-call l = l.homes.items ++ map home_of (drop l.call-index l.calls) ≡ map home_of l.calls
