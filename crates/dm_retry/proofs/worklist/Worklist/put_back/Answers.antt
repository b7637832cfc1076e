use Rattle.std.proofs.Common.{subst, sym, true}
use Rattle.dm_retry.proofs.KeptLemmas.{all-marked_at, ready-marked}
use Rattle.dm_retry.specs.Unresolved.{AllDirty}
use Rattle.dm_retry.proofs.worklist.Worklist.put_back.Goals as goal

pub invariant_of-self : goal.invariant_of-self
invariant_of-self c =
    let was = c.self.inside in
    let kept = c.self.invariant.kept c.if-self.true in
    ready-marked was.index.entries c.mark.new.dirty was.imports.items c.mark.new.imports.items c.args.k true was.ready
    c.if-self.true kept.indexed c.mark.ensures.imports c.mark.ensures.marks

pub returns-else-self : goal.returns-else-self
returns-else-self c =
    sym (all-marked_at c.args.self.now c.args.k (subst (AllDirty) c.self.view_is (c.self.invariant.before c.if-self.false)))
