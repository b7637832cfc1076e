use Rattle.std.proofs.Common.{◌≡◌, drop}
use Rattle.crate_tables.specs.CrateMaps.{with_crate_modules, with_modules}
use Rattle.crate_tables.specs.CrateTables.{IsTableOf}
use Rattle.dm_maps.specs.Added.{IsGrown}
use Rattle.crate_tables.proofs.crate_maps.add_modules.Given as goal

abbrev pub invariant-loop-declared : goal.invariant-loop-declared
invariant-loop-declared l = record {
  filled : with_modules l.view (record { world = l.builder; table = l.table }) (drop l.declared-index (drop 1 l.view.list.modules)) ≡ with_crate_modules l.view l.fn.builder l.fn.root;
  kept : IsTableOf l.builder l.view.krate l.table;
  grown : IsGrown l.fn.builder l.builder;
}
