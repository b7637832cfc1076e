use Rattle.std.proofs.Common.{◌≡◌, drop}
use Rattle.crate_tables.specs.AssocItems.{with_rows}
use Rattle.dm_maps.specs.Added.{IsGrown}
use Rattle.crate_tables.proofs.assoc_items.items.add_rows.Given as goal

abbrev pub invariant-loop-row : goal.invariant-loop-row
invariant-loop-row l = record {
  added : with_rows l.files l.list l.containers (record { world = l.builder; places = l.places.items }) (drop l.row-index l.rows) ≡
      with_rows l.files l.list l.containers (record { world = l.fn.builder; places = l.fn.places.items }) l.rows;
  grown : IsGrown l.fn.builder l.builder;
}
