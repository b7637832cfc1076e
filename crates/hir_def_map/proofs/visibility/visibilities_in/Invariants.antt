use Rattle.std.proofs.Common.{◌≡◌, ◌++◌, length}
use Rattle.std.specs.List.{AllByRecursion}
use Rattle.dm_maps.specs.TablesHold.{raw_holds}
use Rattle.dm_maps.specs.Known.{KnowsAll}
use Rattle.hir_def_map.specs.RawVisibilities.{IsOfWorld, visibilities_in}
use Rattle.hir_def_map.proofs.visibility.visibilities_in.Given as goal

abbrev pub invariant-fields : goal.invariant-fields
invariant-fields l = record {
  same : l.seen.items ++ visibilities_in l.world l.m l.rest ≡ visibilities_in l.world l.m l.fields;
  seen_known : AllByRecursion (IsOfWorld l.world) l.seen.items;
  known : AllByRecursion (λ v. KnowsAll l.world (raw_holds v)) l.rest;
}

abbrev pub decreases-fields : goal.decreases-fields
decreases-fields l = length l.rest
