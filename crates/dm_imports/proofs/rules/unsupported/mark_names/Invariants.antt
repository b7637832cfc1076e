use Rattle.std.proofs.Common.{Bor, take}
use Rattle.std.specs.List.{All}
use Rattle.dm_base.specs.Names.{Name}
use Rattle.dm_imports.specs.Grounding.{slots_of}
use Rattle.dm_imports.specs.Marking.{AreJudged, Marks}
use Rattle.dm_imports.specs.Tables.{of_tables}
use Rattle.dm_imports.proofs.rules.unsupported.mark_names.Given as goal

-- each name so far is judged
abbrev pub invariant-loop-name : goal.invariant-loop-name
invariant-loop-name l = record {
  marks : Marks (of_tables l.maps) l.fn.found l.found;
  judged : All (λ (n : Bor Name). AreJudged (of_tables l.maps) (slots_of l.found.unsupported) l.m n.now) (take l.name-index l.names);
}
