use Rattle.std.proofs.Common.{◌≡◌, ◌-◌, slice_get, false}
use Rattle.dm_base.specs.Tree.{IsKnown, outer, is_block_root}
use Rattle.dm_base.proofs.module_tree.ModuleTree.outer_member.Given as goal

abbrev pub invariant-members : goal.invariant-members
invariant-members g l =
    let t = g.Self.ModuleTree.tree l.self in
    record {
      known : IsKnown t l.at;
      no_root : is_block_root t l.at ≡ false;
      same : slice_get (outer t l.fn.m) l.fn.k ≡ slice_get (outer t l.at) (l.fn.k - l.counter);
    }
