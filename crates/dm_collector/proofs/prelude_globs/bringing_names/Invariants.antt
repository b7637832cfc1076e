use Rattle.std.proofs.Common.{◌≡◌}
use Rattle.std.specs.List.{flat_map}
use Rattle.dm_collector.specs.PreludeGlobs.{unless_named}
use Rattle.dm_collector.proofs.prelude_globs.bringing_names.Given as goal

abbrev pub invariant-loop-glob : goal.invariant-loop-glob
invariant-loop-glob l = l.left.items ≡ flat_map (unless_named l.world) l.yielded
