use Rattle.std.proofs.Common.{◌≡◌, drop}
use Rattle.crate_tables.specs.CrateTables.{IsTableOf}
use Rattle.crate_tables.specs.CrateUses.{with_uses_from}
use Rattle.dm_maps.specs.Added.{IsGrown}
use Rattle.crate_tables.proofs.crate_uses.add_all.Given as goal

abbrev pub invariant-loop-number : goal.invariant-loop-number
invariant-loop-number l = record {
  added : with_uses_from l.view l.textual (record { world = l.builder; table = l.table }) l.number (drop l.number l.items)
      ≡ with_uses_from l.view l.textual (record { world = l.fn.builder; table = l.fn.table }) 0 l.items;
  kept : IsTableOf l.builder l.view.krate l.table;
  grown : IsGrown l.fn.builder l.builder;
}
