use Rattle.std.proofs.Common.{◌≡◌}
use Rattle.std.specs.Prelude.{map}
use Rattle.std.specs.List.{flat_map}
use Rattle.crate_tables.specs.CrateTables.{Table, emptied}
use Rattle.crate_tables.proofs.table_parts.table_parts.Given as goal

abbrev pub invariant-loop-table : goal.invariant-loop-table
invariant-loop-table l = record {
  names : l.names.items ≡ flat_map (λ (t : Table). t.names) l.yielded;
  leaves : l.leaves.items ≡ flat_map (λ (t : Table). t.leaves) l.yielded;
  rest : l.rest.items ≡ map emptied l.yielded;
}
