use Rattle.std.proofs.Common.{◌≡◌, ◌++◌}
use Rattle.crate_tables.specs.CrateDefs.{with_items}
use Rattle.crate_tables.specs.CrateMaps.{Filled}
use Rattle.crate_tables.specs.CrateTables.{IsTableOf}
use Rattle.dm_maps.specs.Added.{IsGrown}
use Rattle.crate_tables.proofs.crate_defs.add_items.Given as goal

abbrev pub invariant-loop-item : goal.invariant-loop-item
invariant-loop-item l = record {
  filled : ◌≡◌ {A = Filled} (record { world = l.builder; table = l.table }) (with_items l.view (record { world = l.fn.builder; table = l.fn.table }) l.yielded);
  kept : IsTableOf l.builder l.view.krate l.table;
  rest : l.yielded ++ l.item-iterator.rest.items ≡ l.fn.items.items;
  grown : IsGrown l.fn.builder l.builder;
}
