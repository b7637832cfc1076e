use Rattle.std.proofs.Common.{◌≡◌, ◌++◌, drop}
use Rattle.dm_scope.specs.Sorted.{seen}
use Rattle.dm_collector.proofs.macro_preludes.references.Given as goal

abbrev pub invariant-loop-name : goal.invariant-loop-name
invariant-loop-name l = seen l.found.items ++ drop l.name-index l.names ≡ l.names
