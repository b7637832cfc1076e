use Rattle.std.proofs.Common.{◌≡◌}
use Rattle.dm_base.specs.Tree.{IsKnown, chain, is_among}
use Rattle.dm_base.proofs.module_tree.ModuleTree.contains.Given as goal

abbrev pub invariant-loop-a : goal.invariant-loop-a
invariant-loop-a g l = record {
  known : IsKnown (g.Self.ModuleTree.tree l.self) l.at;
  same : is_among l.a (chain (g.Self.ModuleTree.tree l.self) l.at) ≡ is_among l.a (chain (g.Self.ModuleTree.tree l.self) l.fn.m);
}

abbrev pub decreases-loop-a : goal.decreases-loop-a
decreases-loop-a g l = l.at.0
