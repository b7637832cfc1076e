use Rattle.std.proofs.Common.{length}
use Rattle.std.specs.List.{All}
use Rattle.dm_imports.specs.Grounding.{AreCovered, IsSafe, IsWay, slots_of}
use Rattle.dm_imports.specs.Tables.{of_tables}
use Rattle.dm_imports.proofs.rules.grounded.settle_rest.Given as goal

-- what is known is no more than each closed set has, and each way is open or settled
abbrev pub invariant-passes : goal.invariant-passes
invariant-passes l = record {
  ways : All (IsWay (of_tables l.maps)) l.waiting.items;
  safe : IsSafe (of_tables l.maps) (slots_of l.known);
  covered : AreCovered (of_tables l.maps) (slots_of l.known) l.waiting.items;
}

abbrev pub decreases-passes : goal.decreases-passes
decreases-passes l = length l.waiting.items
