use Rattle.std.proofs.Common.{take}
use Rattle.std.specs.List.{All}
use Rattle.dm_imports.specs.Grounding.{HasMore, IsNameSettled, slots_of}
use Rattle.dm_imports.specs.Tables.{of_tables}
use Rattle.dm_imports.proofs.rules.grounded.ways.add_names.Given as goal

-- nothing was lost, and the ways of each name so far are settled
abbrev pub invariant-loop-name : goal.invariant-loop-name
invariant-loop-name l = record {
  more : HasMore (of_tables l.maps) l.fn.known l.known l.fn.ways.items l.ways.items;
  settled : All (IsNameSettled (of_tables l.maps) (slots_of l.known) l.ways.items l.m) (take l.name-index l.names);
}
