use Rattle.std.proofs.Common.{◌∙◌, sym}
use Rattle.dm_scope.specs.Shadowing.{reading}
use Rattle.dm_scope.specs.Bindings.{pushed, bound_after}
use Rattle.dm_scope.specs.PushSteps.{written, with_keys, without_keys, finished}
use Rattle.dm_scope.proofs.BindingLemmas.{written-with_keys, without_keys-with_keys}
use Rattle.dm_scope.proofs.bindings.Bindings.grow.Goals as goal

pub returns-in-Ok-clause-undo : goal.returns-in-Ok-clause-undo
returns-in-Ok-clause-undo g c =
    let r = reading g.I.PartialEq.eq g.D.PartialEq.eq g.I.ImportSource.globs g.I.ImportSource.narrowed g.I.ImportSource.widened g.D.Definition.widened_def in
    (λ i. without_keys (c.in_ok-new.ensures.ok i) (c.in_ok-new.ensures.item i) (c.in_ok-new.ensures.record_key i))
    ∙ without_keys-with_keys r g.met.I.Eq.laws.refl c.args.self.now c.args.name.now c.in-Some.item c.narrowed-import.result

pub returns-in-Err-clause-err : goal.returns-in-Err-clause-err
returns-in-Err-clause-err g c =
    let r = reading g.I.PartialEq.eq g.D.PartialEq.eq g.I.ImportSource.globs g.I.ImportSource.narrowed g.I.ImportSource.widened g.D.Definition.widened_def in
    c.remove_keys.ensures
    ∙ (λ i. without_keys (c.in_ok-new.ensures.ok i) (c.in_ok-new.ensures.item i) (c.in_ok-new.ensures.record_key i))
    ∙ without_keys-with_keys r g.met.I.Eq.laws.refl c.args.self.now c.args.name.now c.in-Some.item c.narrowed-import.result

pub returns-in-Ok-clause-finish : goal.returns-in-Ok-clause-finish
returns-in-Ok-clause-finish g c =
    let r = reading g.I.PartialEq.eq g.D.PartialEq.eq g.I.ImportSource.globs g.I.ImportSource.narrowed g.I.ImportSource.widened g.D.Definition.widened_def in
    (λ i. finished r (c.in_ok-new.ensures.ok i) (c.in_ok-new.ensures.writes i) c.args.name.now (c.in-Some.is i) c.args.import)
    ∙ (λ i. written r (with_keys r c.args.self.now c.args.name.now c.in-Some.item c.narrowed-import.result) c.args.name.now c.in-Some.item (sym c.narrowed-import.ensures i))
    ∙ written-with_keys r g.met.I.Eq.laws.refl c.args.self.now c.contains.result c.args.name.now c.in-Some.item c.narrowed-import.result (sym c.writes.ensures ∙ c.if-not-writes.false)
    ∙ (λ i. pushed r c.args.self.now (c.contains.ensures i) c.args.name.now c.in-Some.item (c.narrowed-import.ensures i))
    ∙ (λ i. bound_after r c.args.self.now c.args.flags.now c.args.m c.args.name.now (sym c.in-Some.is i) c.args.import)
