use Rattle.std.proofs.Common.{◌∙◌, ap, false, sym, true}
use Rattle.dm_scope.specs.Flags.{with_flag}
use Rattle.dm_scope.specs.FlagLaws.{with_flag-undone}
use Rattle.dm_scope.proofs.bindings.glob_flags.GlobFlags.grow.Goals as goal

pub returns-clause-undo : goal.returns-clause-undo
returns-clause-undo c =
    ap (λ f. with_flag f c.args.m c.args.name.now false) (c.in_ok-set.ensures.ok ∙ ap (λ n. with_flag c.args.self.now c.args.m n true) c.in_ok-key.ensures)
    ∙ with_flag-undone c.args.self.now c.args.m c.args.name.now (sym c.contains.ensures ∙ c.if-contains.false)
