use Rattle.std.proofs.Common.{take}
use Rattle.std.specs.List.{All}
use Rattle.dm_imports.specs.Rules.{IsGlobKnown}
use Rattle.dm_imports.specs.Tables.{of_tables}
use Rattle.dm_imports.proofs.known.globs_known.Given as goal

abbrev pub invariant-loop-glob : goal.invariant-loop-glob
invariant-loop-glob l = All (IsGlobKnown (of_tables l.maps)) (take l.glob-index l.globs)
