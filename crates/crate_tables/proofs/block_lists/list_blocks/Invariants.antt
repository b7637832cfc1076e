use Rattle.std.proofs.Common.{◌≡◌, ◌+◌, drop, length}
use Rattle.crate_tables.specs.BlockLists.{blocks_of, with_blocks_from}
use Rattle.crate_tables.specs.TextualMacros.{AllStayShown, StaysKnown}
use Rattle.crate_tables.proofs.block_lists.list_blocks.Given as goal

abbrev pub invariant-loop-table : goal.invariant-loop-table
invariant-loop-table l = record {
  world : with_blocks_from l.builder l.number (blocks_of (drop l.table-index l.tables)) ≡ with_blocks_from l.fn.builder 0 (blocks_of l.tables);
  number : l.number + length (blocks_of (drop l.table-index l.tables)) ≡ length (blocks_of l.tables);
  stays : StaysKnown l.fn.builder l.builder;
  shown : AllStayShown l.fn.builder l.builder;
}
