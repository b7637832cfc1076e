use Rattle.std.proofs.Common.{◌≡◌, ◌++◌, drop}
use Rattle.def_diagnostics.proofs.macro_calls.copied_names.Given as goal

abbrev pub invariant-loop-name : goal.invariant-loop-name
invariant-loop-name l = l.copies.items ++ drop l.name-index l.names ≡ l.names
