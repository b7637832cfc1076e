use Rattle.std.proofs.Common.{◌≡◌, find, unwrap_or}
use Rattle.dm_base.specs.Tree.{IsKnown, outward, is_lifted, lift_to}
use Rattle.dm_base.proofs.visibility.lifted.Given as goal

abbrev pub invariant-lift : goal.invariant-lift
invariant-lift g l =
    let t = g.T.ModuleTree.tree l.tree in
    record {
      known : IsKnown t l.at;
      same : unwrap_or (find (is_lifted t l.fn.map) (outward t l.at)) l.fn.to ≡ lift_to t l.fn.to l.fn.map;
    }

abbrev pub decreases-lift : goal.decreases-lift
decreases-lift g l = l.at.0
