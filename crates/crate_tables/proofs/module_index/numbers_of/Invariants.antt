use Rattle.std.proofs.Common.{◌≤◌, drop, length}
use Rattle.crate_tables.specs.ModuleIndexes.{AreNumbersOf}
use Rattle.crate_tables.proofs.module_index.numbers_of.Given as goal

abbrev pub invariant-loop-number : goal.invariant-loop-number
invariant-loop-number l = record {
  in_range : l.number ≤ length l.modules;
  numbers : AreNumbersOf l.number (drop l.number l.modules) l.numbers.entries;
}

abbrev pub decreases-loop-number : goal.decreases-loop-number
decreases-loop-number l = l.number
