use Rattle.std.proofs.Common.{sym, ◌∙◌}
use Rattle.dm_base.proofs.HomeLemmas.{home-step, way-step, outer-outside}
use Rattle.dm_base.proofs.module_tree.ModuleTree.outside_root.Goals as goal

pub returns-then-is_block_root-clause-way : goal.returns-then-is_block_root-clause-way
returns-then-is_block_root-clause-way g c =
    way-step (g.Self.ModuleTree.tree c.args.self.now) c.outside.ensures.lawful c.args.m c.outside.result c.requires (sym c.is_block_root.ensures ∙ c.if-is_block_root.true) c.outside.ensures.value

pub returns-then-is_block_root-clause-home : goal.returns-then-is_block_root-clause-home
returns-then-is_block_root-clause-home g c =
    home-step (g.Self.ModuleTree.tree c.args.self.now) c.outside.ensures.lawful c.args.m c.outside.result c.requires (sym c.is_block_root.ensures ∙ c.if-is_block_root.true) c.outside.ensures.value

pub returns-then-is_block_root-clause-outer : goal.returns-then-is_block_root-clause-outer
returns-then-is_block_root-clause-outer g c = λ o is.
    outer-outside (g.Self.ModuleTree.tree c.args.self.now) c.outside.ensures.lawful c.args.m o c.requires (sym c.is_block_root.ensures ∙ c.if-is_block_root.true) (sym c.outside.ensures.value ∙ is)
