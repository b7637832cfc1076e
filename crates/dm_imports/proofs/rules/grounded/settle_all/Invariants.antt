use Rattle.std.proofs.Common.{◌≡◌, ◌≤◌, ◌+◌, ◌++◌, length}
use Rattle.std.specs.List.{All}
use Rattle.dm_imports.specs.Grounding.{AreCovered, IsOpen, IsSafe, IsWay, offers_in, slots_of}
use Rattle.dm_imports.specs.Tables.{of_tables}
use Rattle.dm_imports.proofs.rules.grounded.settle_all.Given as goal

-- each way is settled, to be settled yet, or left; if none was settled yet, those that are left are open
abbrev pub invariant-loop-way : goal.invariant-loop-way
invariant-loop-way l = record {
  waiting : All (IsWay (of_tables l.maps)) l.waiting.items;
  left : All (IsWay (of_tables l.maps)) l.left.items;
  safe : IsSafe (of_tables l.maps) (slots_of l.known);
  covered : AreCovered (of_tables l.maps) (slots_of l.fn.known) l.fn.ways.items → AreCovered (of_tables l.maps) (slots_of l.known) (l.waiting.items ++ l.left.items);
  fewer : length l.waiting.items + length l.left.items ≤ length l.fn.ways.items;
  same : length l.waiting.items + length l.left.items ≡ length l.fn.ways.items → l.known ≡ l.fn.known;
  stuck : length l.waiting.items + length l.left.items ≡ length l.fn.ways.items → All (IsOpen (of_tables l.maps) (slots_of l.fn.known) (offers_in l.offered)) l.left.items;
}

abbrev pub decreases-loop-way : goal.decreases-loop-way
decreases-loop-way l = length l.waiting.items
