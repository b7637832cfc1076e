use Rattle.std.proofs.Common.{◌≡◌, ◌++◌, drop}
use Rattle.dm_collector.specs.MacroUses.{macro_uses}
use Rattle.dm_collector.proofs.macro_uses.macro_uses.Given as goal

abbrev pub invariant-loop-number : goal.invariant-loop-number
invariant-loop-number l =
    l.uses.items ++ macro_uses l.files l.lists l.rows l.number (drop l.number l.graph)
    ≡ macro_uses l.files l.lists l.rows 0 l.graph
