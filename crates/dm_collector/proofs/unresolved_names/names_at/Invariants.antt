use Rattle.std.proofs.Common.{◌≡◌, ◌++◌, drop}
use Rattle.dm_collector.specs.UnresolvedNames.{names_at}
use Rattle.dm_collector.proofs.unresolved_names.names_at.Given as goal

abbrev pub invariant-loop-place : goal.invariant-loop-place
invariant-loop-place l = l.names.items ++ names_at l.imports (drop l.place-index l.places) ≡ names_at l.imports l.places
