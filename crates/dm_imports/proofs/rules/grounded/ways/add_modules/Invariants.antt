use Rattle.std.proofs.Common.{◌<◌}
use Rattle.dm_base.specs.declared.ids.ModuleId.{ModuleId}
use Rattle.dm_imports.specs.Grounding.{HasMore, HasWaysOf, slots_of}
use Rattle.dm_imports.specs.Tables.{of_tables}
use Rattle.dm_imports.proofs.rules.grounded.ways.add_modules.Given as goal

-- nothing was lost, and the ways of all names of each module so far are settled
abbrev pub invariant-loop-number : goal.invariant-loop-number
invariant-loop-number l = record {
  more : HasMore (of_tables l.maps) l.fn.known l.known l.fn.ways.items l.ways.items;
  settled : (m : ModuleId) → m.0 < l.number → HasWaysOf (of_tables l.maps) (slots_of l.known) l.ways.items m;
}
