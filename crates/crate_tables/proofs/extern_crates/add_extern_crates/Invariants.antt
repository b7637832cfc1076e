use Rattle.std.proofs.Common.{◌≡◌, drop}
use Rattle.crate_tables.specs.CrateTables.{IsTableOf}
use Rattle.crate_tables.specs.ExternCrates.{with_extern_crates}
use Rattle.dm_maps.specs.Added.{IsGrown}
use Rattle.crate_tables.proofs.extern_crates.add_extern_crates.Given as goal

abbrev pub invariant-loop-item : goal.invariant-loop-item
invariant-loop-item l = record {
  linked : with_extern_crates l.view l.dependencies (record { world = l.builder; table = l.table; rows = l.rows.items }) (drop l.item-index l.items) ≡ with_extern_crates l.view l.dependencies (record { world = l.fn.builder; table = l.fn.table; rows = l.fn.rows.items }) l.items;
  kept : IsTableOf l.builder l.view.krate l.table;
  grown : IsGrown l.fn.builder l.builder;
}
