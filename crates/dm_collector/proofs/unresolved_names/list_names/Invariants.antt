use Rattle.std.proofs.Common.{◌≡◌}
use Rattle.dm_imports.specs.Bound.{Maps}
use Rattle.dm_collector.specs.UnresolvedNames.{IsListedSome, with_names}
use Rattle.dm_collector.proofs.unresolved_names.list_names.Given as goal

abbrev pub invariant-loop-name : goal.invariant-loop-name
invariant-loop-name l = record {
  all : with_names (record { world = l.world; flags = l.flags }) l.name-iterator.rest.items ≡ with_names (record { world = l.fn.world; flags = l.fn.flags }) l.fn.names.items;
  some : (t : Maps) → IsListedSome (record { world = l.world; flags = l.flags }) l.name-iterator.rest.items t → IsListedSome (record { world = l.fn.world; flags = l.fn.flags }) l.fn.names.items t;
}
