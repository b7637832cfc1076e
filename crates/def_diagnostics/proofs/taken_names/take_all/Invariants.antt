use Rattle.std.proofs.Common.{◌≡◌}
use Rattle.std.specs.Prelude.{fold}
use Rattle.def_diagnostics.specs.TakenNames.{with_name}
use Rattle.def_diagnostics.proofs.taken_names.take_all.Given as goal

abbrev pub invariant-loop-name : goal.invariant-loop-name
invariant-loop-name l = fold with_name l.taken.keys l.name-iterator.rest.items ≡ fold with_name l.fn.taken.keys l.fn.names.items
