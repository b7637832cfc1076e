use Rattle.std.proofs.Common.{◌≡◌, ◌++◌, drop}
use Rattle.def_diagnostics.specs.Unconfigured.{of_items_from}
use Rattle.def_diagnostics.proofs.unconfigured.push_items.Given as goal

abbrev pub invariant-loop-number : goal.invariant-loop-number
invariant-loop-number l =
    l.found.items ++ of_items_from l.file l.source.standings l.number (drop l.number l.source.items)
    ≡ l.fn.found.items ++ of_items_from l.file l.source.standings 0 l.source.items
