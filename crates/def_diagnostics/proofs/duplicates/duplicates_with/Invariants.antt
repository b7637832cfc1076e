use Rattle.std.proofs.Common.{◌≡◌, ◌++◌, [], drop}
use Rattle.def_diagnostics.specs.Duplicates.{duplicates_from}
use Rattle.def_diagnostics.proofs.duplicates.duplicates_with.Given as goal

abbrev pub invariant-loop-item : goal.invariant-loop-item
invariant-loop-item l =
    l.found.items ++ duplicates_from l.list l.files l.mods l.taken.keys (drop l.item-index l.items) ≡ duplicates_from l.list l.files l.mods [] l.items
