use Rattle.std.proofs.Common.{◌∙◌, ap, map, subst, sym}
use Rattle.dm_retry.proofs.KeptLemmas.{all-awoken, ready-woken, woken}
use Rattle.dm_retry.specs.Rounds.{awoken}
use Rattle.dm_retry.specs.Unresolved.{AllDirty}
use Rattle.dm_retry.proofs.worklist.Worklist.wake.Goals as goal

pub invariant_of-self : goal.invariant_of-self
invariant_of-self c =
    let was = c.self.inside in
    let n = c.args.name.now in
    let xs = c.mark_each.new.imports.items in
    let kept = c.self.invariant.kept c.if-self.true in
    ready-woken was.index.entries c.mark_each.new.dirty was.imports.items xs n was.ready c.if-self.true kept.indexed
    (woken was.index.entries was.imports.items xs n c.places_of-places.result.now kept.indexed c.places_of-places.ensures c.mark_each.ensures.imports)
    c.mark_each.ensures.marks

pub returns-then-self : goal.returns-then-self
returns-then-self c =
    let was = c.self.inside in
    let n = c.args.name.now in
    let kept = c.self.invariant.kept c.if-self.true in
    woken was.index.entries was.imports.items c.mark_each.new.imports.items n c.places_of-places.result.now kept.indexed c.places_of-places.ensures c.mark_each.ensures.imports
    ∙ ap (map (awoken n)) c.self.view_is

pub returns-else-self : goal.returns-else-self
returns-else-self c =
    sym (all-awoken c.args.self.now c.args.name.now (subst (AllDirty) c.self.view_is (c.self.invariant.before c.if-self.false)))
