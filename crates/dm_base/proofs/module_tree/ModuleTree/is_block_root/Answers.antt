use Rattle.std.proofs.Common.{ap, sym, ◌∙◌, is_some}
use Rattle.std.specs.Option.{option_eq}
use Rattle.dm_base.specs.Tree.{same_module}
use Rattle.dm_base.proofs.HomeLemmas.{root-test}
use Rattle.dm_base.proofs.module_tree.ModuleTree.is_block_root.Goals as goal

pub returns-then-is_some : goal.returns-then-is_some
returns-then-is_some g c =
    let t = g.Self.ModuleTree.tree c.args.self.now in
    c.eq.ensures
    ∙ (λ i. option_eq same_module (c.containing.ensures.value i) (c.outside.ensures.value i))
    ∙ root-test t c.outside.ensures.lawful c.args.m c.requires (ap is_some (sym c.block.ensures) ∙ sym c.is_some.ensures ∙ c.if-is_some.true)
