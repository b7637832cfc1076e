use Rattle.std.proofs.Common.{◌≡◌, ◌++◌, drop}
use Rattle.dm_collector.specs.BareModules.{bare_ids}
use Rattle.dm_collector.proofs.bare_modules.push_ids.Given as goal

abbrev pub invariant-loop-number : goal.invariant-loop-number
invariant-loop-number l =
    l.found.items ++ bare_ids l.bare l.number (drop l.number l.ids) ≡ l.fn.found.items ++ bare_ids l.bare 0 l.ids
