use Rattle.dm_base.specs.TreeLaws.{chain-step}
use Rattle.dm_base.proofs.module_tree.climb.Goals as goal

pub returns-clause-chain : goal.returns-clause-chain
returns-clause-chain g c =
    chain-step (g.T.ModuleTree.tree c.args.tree.now) c.containing.ensures.lawful c.args.m c.containing.result c.requires c.containing.ensures.value
