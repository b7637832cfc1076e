use Rattle.std.proofs.Common.{◌≡◌, List, drop, take}
use Rattle.crate_tables.specs.DeclaredWorlds.{AreShown, with_all_declared}
use Rattle.dm_maps.specs.declared.check.held.HeldId.{HeldId}
use Rattle.dm_maps.specs.Known.{KnowsAll}
use Rattle.crate_tables.proofs.declared_world.declare_all.Given as goal

abbrev pub invariant-loop-declared : goal.invariant-loop-declared
invariant-loop-declared l = record {
  exact : with_all_declared (record { world = l.world; globs = l.globs }) (drop l.declared-index l.names) ≡
      with_all_declared (record { world = l.fn.world; globs = l.fn.globs }) l.names;
  shown : AreShown l.world l.globs (take l.declared-index l.names);
  stays : (hs : List HeldId) → KnowsAll l.fn.world hs → KnowsAll l.world hs;
}
