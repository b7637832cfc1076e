use Rattle.std.proofs.Common.{take}
use Rattle.std.specs.List.{All}
use Rattle.dm_imports.specs.Grounding.{slots_of}
use Rattle.dm_imports.specs.Marking.{IsGlobJudged, Marks}
use Rattle.dm_imports.specs.Tables.{of_tables}
use Rattle.dm_imports.proofs.rules.unsupported.mark_globs.Given as goal

-- the names of each glob so far are judged
abbrev pub invariant-loop-glob : goal.invariant-loop-glob
invariant-loop-glob l = record {
  marks : Marks (of_tables l.maps) l.fn.found l.found;
  judged : All (IsGlobJudged (of_tables l.maps) (slots_of l.found.unsupported)) (take l.glob-index l.globs);
}
