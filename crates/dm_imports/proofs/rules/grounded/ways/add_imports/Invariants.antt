use Rattle.std.proofs.Common.{take}
use Rattle.std.specs.List.{All}
use Rattle.dm_imports.specs.Grounding.{HasMore, IsImportSettled, slots_of}
use Rattle.dm_imports.specs.Tables.{of_tables}
use Rattle.dm_imports.proofs.rules.grounded.ways.add_imports.Given as goal

-- nothing was lost, and the ways of each import so far are settled
abbrev pub invariant-loop-import : goal.invariant-loop-import
invariant-loop-import l = record {
  more : HasMore (of_tables l.maps) l.fn.known l.known l.fn.ways.items l.ways.items;
  settled : All (IsImportSettled (of_tables l.maps) (slots_of l.known) l.ways.items) (take l.import-index l.imports);
}
