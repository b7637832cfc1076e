use Rattle.std.proofs.Common.{◌≡◌, drop}
use Rattle.std.specs.Prelude.{slice_get}
use Rattle.crate_tables.specs.BlockLists.{blocks_of}
use Rattle.crate_tables.proofs.block_lists.numbered_block.Given as goal

abbrev pub invariant-loop-table : goal.invariant-loop-table
invariant-loop-table l = slice_get (blocks_of (drop l.table-index l.tables)) l.at ≡ slice_get (blocks_of l.tables) l.number
