-- How the counts of records go on where a scope becomes another.
use Rattle.std.specs.Prelude.{◌≡◌, ◌+◌, ◌-◌, ◌^◌, ℕ, length, min}
use Rattle.dm_base.specs.declared.per_ns.Namespace.{Namespace}
use Rattle.dm_base.specs.declared.per_ns.Namespace.TheVariants.{Types, Values, Macros}
use Rattle.dm_scope.specs.Records.{records_in}
use Rattle.dm_scope.specs.Scope.{Scope}
use Rattle.dm_maps.specs.declared.world.record_counts.RecordCounts.{RecordCounts}

-- a count n of a namespace, and the records that t has more than s; the greatest `usize` where it is more
abbrev pub grown : ℕ → Namespace → Scope → Scope → ℕ
grown n ns s t = min (n + (length (records_in ns t) - length (records_in ns s))) (2 ^ 64 - 1)

-- the counts of each namespace go on with the records that t has more than s
pub record HaveGrown (before after : RecordCounts) (s t : Scope) : Type 0 where
  pub types : after.types ≡ grown before.types Types s t
  pub values : after.values ≡ grown before.values Values s t
  pub macros : after.macros ≡ grown before.macros Macros s t
