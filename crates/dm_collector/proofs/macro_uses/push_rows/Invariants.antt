use Rattle.std.proofs.Common.{◌≡◌, ◌++◌, drop}
use Rattle.dm_collector.specs.MacroUses.{of_rows}
use Rattle.dm_collector.proofs.macro_uses.push_rows.Given as goal

abbrev pub invariant-loop-number : goal.invariant-loop-number
invariant-loop-number l =
    l.sources.items ++ of_rows l.files l.list l.krate l.number (drop l.number l.rows)
    ≡ l.fn.sources.items ++ of_rows l.files l.list l.krate 0 l.rows
