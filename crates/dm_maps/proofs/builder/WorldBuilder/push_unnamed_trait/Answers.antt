use Rattle.std.proofs.Common.{◌∙◌, ap, sym}
use Rattle.std.specs.Option.{option_copied_mut}
use Rattle.dm_scope.specs.Outcomes.{on-err}
use Rattle.dm_maps.specs.GoesOn.{and_trait}
use Rattle.dm_maps.specs.World.{module_of, with_scope}
use Rattle.dm_maps.proofs.ScopeChanges.{lent-read}
use Rattle.dm_maps.proofs.ScopeWrites.{with_scope-own}
use Rattle.dm_maps.proofs.builder.WorldBuilder.push_unnamed_trait.Goals as goal

pub returns-in_err-push_unnamed_trait-clause-err : goal.returns-in_err-push_unnamed_trait-clause-err
returns-in_err-push_unnamed_trait-clause-err c = on-err c.from_residual.result
    (ap (with_scope c.args.self.now c.args.m) c.in_err-push_unnamed_trait.ensures.err
    ∙ with_scope-own c.unwrap-scope.result.now c.args.self.now c.args.m (sym c.scope_mut.ensures.value ∙ ap option_copied_mut c.unwrap-scope.ensures))

pub returns-clause-ok : goal.returns-clause-ok
returns-clause-ok c =
    let a = c.args in
    let lent = lent-read c.unwrap-scope.result.now (module_of a.self.now a.m) (sym c.scope_mut.ensures.value ∙ ap option_copied_mut c.unwrap-scope.ensures) in
    ap (with_scope a.self.now a.m) (c.in_ok-push_unnamed_trait.ensures.ok ∙ ap (λ s. and_trait s a.tr a.vis a.import) lent)
