use Rattle.std.proofs.Common.{◌∙◌, false, subst, sym}
use Rattle.std.proofs.lemmas.Result.{err_from_is_err_and}
use Rattle.dm_retry.proofs.KeptLemmas.{all-marked_at, ready-marked}
use Rattle.dm_retry.specs.Unresolved.{AllDirty}
use Rattle.dm_retry.proofs.worklist.Worklist.take.Goals as goal

pub returns-in_err-prepare-clause-put_back : goal.returns-in_err-prepare-clause-put_back
returns-in_err-prepare-clause-put_back c =
    let p = err_from_is_err_and c.from_residual.result c.from_residual.ensures.1 in
    let all = subst (AllDirty) c.self.view_is (c.self.invariant.before c.in_err-prepare.ensures.err) in
    rw p.1 (c.self.view_is ∙ sym (all-marked_at c.args.self.now c.args.k all))

pub invariant_of-self-2 : goal.invariant_of-self-2
invariant_of-self-2 c =
    let ready = c.in_ok-prepare.ensures.ok in
    let kept = c.prepare.ensures.ready.kept ready in
    ready-marked c.prepare.new.index.entries c.mark.new.dirty c.self.inside.imports.items c.mark.new.imports.items c.args.k false c.prepare.new.ready
    ready kept.indexed c.mark.ensures.imports c.mark.ensures.marks
