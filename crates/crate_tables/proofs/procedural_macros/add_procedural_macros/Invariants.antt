use Rattle.std.proofs.Common.{◌≡◌, drop}
use Rattle.crate_tables.specs.CrateTables.{IsTableOf}
use Rattle.crate_tables.specs.ProceduralMacros.{with_procedural_macros}
use Rattle.dm_maps.specs.Added.{IsGrown}
use Rattle.crate_tables.proofs.procedural_macros.add_procedural_macros.Given as goal

abbrev pub invariant-loop-item : goal.invariant-loop-item
invariant-loop-item l = record {
  added : with_procedural_macros l.view (record { world = l.builder; table = l.table }) (drop l.item-index l.items) ≡ with_procedural_macros l.view (record { world = l.fn.builder; table = l.fn.table }) l.items;
  kept : IsTableOf l.builder l.view.krate l.table;
  grown : IsGrown l.fn.builder l.builder;
}
