use Rattle.std.proofs.Common.{◌≡◌, length}
use Rattle.dm_retry.specs.Index.{Marks, all_marked}
use Rattle.dm_retry.proofs.worklist.mark_each.Given as goal

abbrev pub invariant-places : goal.invariant-places
invariant-places l = record {
  imports : all_marked l.rest l.imports.items ≡ all_marked l.places l.initial.imports.items;
  marks : Marks l.dirty l.imports.items;
}

abbrev pub decreases-places : goal.decreases-places
decreases-places l = length l.rest
