use Rattle.std.proofs.Common.{take}
use Rattle.std.specs.List.{All}
use Rattle.dm_imports.specs.declared.named_import.NamedImport.{NamedImport}
use Rattle.dm_imports.specs.Grounding.{slots_of}
use Rattle.dm_imports.specs.Marking.{AreJudged, Marks}
use Rattle.dm_imports.specs.Tables.{of_tables}
use Rattle.dm_imports.proofs.rules.unsupported.mark_imports.Given as goal

-- the name of each import so far is judged
abbrev pub invariant-loop-import : goal.invariant-loop-import
invariant-loop-import l = record {
  marks : Marks (of_tables l.maps) l.fn.found l.found;
  judged : All (λ (i : NamedImport). AreJudged (of_tables l.maps) (slots_of l.found.unsupported) i.home i.name) (take l.import-index l.imports);
}
