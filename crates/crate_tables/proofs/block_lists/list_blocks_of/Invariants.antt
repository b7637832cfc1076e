use Rattle.std.proofs.Common.{◌≡◌, ◌+◌, drop}
use Rattle.crate_tables.specs.BlockLists.{with_blocks_from}
use Rattle.crate_tables.specs.TextualMacros.{AllStayShown, StaysKnown}
use Rattle.crate_tables.proofs.block_lists.list_blocks_of.Given as goal

abbrev pub invariant-loop-block : goal.invariant-loop-block
invariant-loop-block l = record {
  world : with_blocks_from l.builder l.number (drop l.block-index l.blocks) ≡ with_blocks_from l.fn.builder l.first l.blocks;
  number : l.number ≡ l.first + l.block-index;
  stays : StaysKnown l.fn.builder l.builder;
  shown : AllStayShown l.fn.builder l.builder;
}
