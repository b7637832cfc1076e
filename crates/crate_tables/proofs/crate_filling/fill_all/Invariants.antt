use Rattle.std.proofs.Common.{take}
use Rattle.std.specs.Prelude.{All}
use Rattle.crate_tables.specs.CrateFillings.{AreCratesFrom, IsKnownTable}
use Rattle.crate_tables.specs.Kept.{IsKept}
use Rattle.crate_tables.proofs.crate_filling.fill_all.Given as goal

abbrev pub invariant-loop-number : goal.invariant-loop-number
invariant-loop-number l = record {
  so_far : AreCratesFrom l.reading 0 (take l.number l.graph) (record { world = l.fn.builder; lists = l.fn.lists.items; tables = l.fn.tables.items; rows = l.fn.externs.items }) (record { world = l.builder; lists = l.lists.items; tables = l.tables.items; rows = l.externs.items });
  known : All (IsKnownTable l.builder) l.tables.items;
  stays : IsKept l.fn.builder l.builder;
}
