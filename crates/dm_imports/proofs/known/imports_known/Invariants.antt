use Rattle.std.proofs.Common.{take}
use Rattle.std.specs.List.{All}
use Rattle.dm_imports.specs.Rules.{IsImportKnown}
use Rattle.dm_imports.specs.Tables.{of_tables}
use Rattle.dm_imports.proofs.known.imports_known.Given as goal

abbrev pub invariant-loop-import : goal.invariant-loop-import
invariant-loop-import l = All (IsImportKnown (of_tables l.maps)) (take l.import-index l.imports)
