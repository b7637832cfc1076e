use Rattle.std.proofs.Common.{◌≡◌}
use Rattle.dm_base.specs.Tree.{IsKnown, home, outer}
use Rattle.dm_base.proofs.module_tree.ModuleTree.home.Given as goal

abbrev pub invariant-roots : goal.invariant-roots
invariant-roots g l =
    let t = g.Self.ModuleTree.tree l.self in
    record {
      known : IsKnown t l.nearest;
      same_outer : outer t l.fn.m ≡ outer t l.nearest;
      same : home t l.fn.m ≡ home t l.nearest;
    }

abbrev pub decreases-roots : goal.decreases-roots
decreases-roots g l = l.nearest.0
