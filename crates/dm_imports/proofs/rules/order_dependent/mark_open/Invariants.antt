use Rattle.std.proofs.Common.{◌≡◌, take, true}
use Rattle.std.specs.List.{All}
use Rattle.dm_imports.specs.Grounding.{IsMore, Way, has_slot, slots_of}
use Rattle.dm_imports.specs.Marking.{AreDependent}
use Rattle.dm_imports.specs.Tables.{of_tables}
use Rattle.dm_imports.proofs.rules.order_dependent.mark_open.Given as goal

-- the slot of each way so far is marked, and no other was
abbrev pub invariant-loop-way : goal.invariant-loop-way
invariant-loop-way l = record {
  more : IsMore (slots_of l.fn.found) (slots_of l.found);
  marked : All (λ (w : Way). has_slot (slots_of l.found) w ≡ true) (take l.way-index l.left);
  just : AreDependent (of_tables l.maps) (slots_of l.fn.found) → AreDependent (of_tables l.maps) (slots_of l.found);
}
