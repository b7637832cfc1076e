use Rattle.std.proofs.Common.{◌≡◌, [], drop}
use Rattle.crate_tables.specs.CrateMacros.{with_macros}
use Rattle.std.specs.Prelude.{All}
use Rattle.crate_tables.specs.CrateTables.{IsMacroOf, IsTableOf}
use Rattle.dm_maps.specs.Added.{IsGrown}
use Rattle.crate_tables.proofs.crate_macros.add_macros.Given as goal

abbrev pub invariant-loop-item : goal.invariant-loop-item
invariant-loop-item l = record {
  added : with_macros l.view (record { world = l.builder; table = l.table; ids = l.ids.items }) (drop l.item-index l.items) ≡ with_macros l.view (record { world = l.fn.builder; table = l.fn.table; ids = [] }) l.items;
  kept : IsTableOf l.builder l.view.krate l.table;
  ids : All (IsMacroOf l.builder) l.ids.items;
  grown : IsGrown l.fn.builder l.builder;
}
