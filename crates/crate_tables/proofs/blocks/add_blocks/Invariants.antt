use Rattle.std.proofs.Common.{◌≡◌, drop}
use Rattle.crate_tables.specs.Blocks.{with_blocks}
use Rattle.crate_tables.specs.CrateTables.{IsTableOf}
use Rattle.dm_base.specs.declared.ids.Crate.{Crate}
use Rattle.dm_maps.specs.World.{World}
use Rattle.crate_tables.proofs.blocks.add_blocks.Given as goal

abbrev pub invariant-loop-item : goal.invariant-loop-item
invariant-loop-item l = record {
  added : with_blocks l.list l.table (drop l.item-index l.items) ≡ with_blocks l.list l.fn.table l.items;
  kept : (w : World) (k : Crate) → IsTableOf w k l.fn.table → IsTableOf w k l.table;
}
