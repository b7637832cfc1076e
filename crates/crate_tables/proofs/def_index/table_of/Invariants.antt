use Rattle.std.proofs.Common.{◌≤◌, drop, length}
use Rattle.crate_tables.specs.DefIndexes.{AreDefsOf}
use Rattle.crate_tables.proofs.def_index.table_of.Given as goal

abbrev pub invariant-loop-number : goal.invariant-loop-number
invariant-loop-number l = record {
  in_range : l.number ≤ length l.places;
  table : AreDefsOf l.procedural (drop l.number l.places) l.table.entries;
}

abbrev pub decreases-loop-number : goal.decreases-loop-number
decreases-loop-number l = l.number
