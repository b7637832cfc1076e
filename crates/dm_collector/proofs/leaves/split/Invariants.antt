use Rattle.std.proofs.Common.{◌≡◌}
use Rattle.std.specs.List.{flat_map}
use Rattle.dm_collector.specs.Leaves.{globs_of, imports_of}
use Rattle.dm_collector.proofs.leaves.split.Given as goal

abbrev pub invariant-loop-leaf : goal.invariant-loop-leaf
invariant-loop-leaf l = record {
  imports : l.imports.items ≡ flat_map imports_of l.yielded;
  globs : l.globs.items ≡ flat_map globs_of l.yielded;
}
