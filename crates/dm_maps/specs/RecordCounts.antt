-- The number of import records in all scopes, as a world caches it.
use Rattle.std.specs.Prelude.{◌≡◌, ℕ}
use Rattle.dm_base.specs.declared.per_ns.Namespace.{Namespace}
use Rattle.dm_base.specs.declared.per_ns.Namespace.TheVariants.{Types, Values, Macros}
use Rattle.dm_scope.specs.Tables.{record_count}
use Rattle.dm_maps.specs.declared.world.record_counts.RecordCounts.{RecordCounts}
use Rattle.dm_maps.specs.ScopeTables.{scope_tables}
use Rattle.dm_maps.specs.World.{World}

-- that of one namespace
abbrev pub count_of : RecordCounts → Namespace → ℕ
count_of c Types = c.types
count_of c Values = c.values
count_of c Macros = c.macros

-- the records of each namespace in all scopes, or the greatest `usize` where they are more
pub record IsCounted (w : World) (c : RecordCounts) : Type 0 where
  pub types : c.types ≡ record_count Types (scope_tables w)
  pub values : c.values ≡ record_count Values (scope_tables w)
  pub macros : c.macros ≡ record_count Macros (scope_tables w)
