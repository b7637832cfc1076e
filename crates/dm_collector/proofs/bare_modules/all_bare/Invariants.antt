use Rattle.std.proofs.Common.{◌≡◌, ◌++◌, drop}
use Rattle.dm_collector.specs.BareModules.{all_bare}
use Rattle.dm_collector.proofs.bare_modules.all_bare.Given as goal

abbrev pub invariant-loop-number : goal.invariant-loop-number
invariant-loop-number l =
    l.found.items ++ all_bare l.lists l.number (drop l.number l.tables) ≡ all_bare l.lists 0 l.tables
