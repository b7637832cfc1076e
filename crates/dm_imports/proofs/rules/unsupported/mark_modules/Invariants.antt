use Rattle.std.proofs.Common.{◌<◌}
use Rattle.dm_base.specs.declared.ids.ModuleId.{ModuleId}
use Rattle.dm_imports.specs.Grounding.{slots_of}
use Rattle.dm_imports.specs.Marking.{AreJudgedIn, Marks}
use Rattle.dm_imports.specs.Tables.{of_tables}
use Rattle.dm_imports.proofs.rules.unsupported.mark_modules.Given as goal

-- the names of each module so far are judged
abbrev pub invariant-loop-number : goal.invariant-loop-number
invariant-loop-number l = record {
  marks : Marks (of_tables l.maps) l.fn.found l.found;
  judged : (m : ModuleId) → m.0 < l.number → AreJudgedIn (of_tables l.maps) (slots_of l.found.unsupported) m;
}
