use Rattle.std.proofs.Common.{◌∙◌, ap, sym}
use Rattle.dm_imports.specs.Brought.{join}
use Rattle.dm_imports.proofs.JoinLemmas.{named-written}
use Rattle.dm_imports.proofs.OutcomeLemmas.{on-ok-then}
use Rattle.dm_imports.proofs.SlotLemmas.{slot-written}
use Rattle.dm_imports.proofs.rules.all_offers.add_offer.Goals as goal

pub returns-in-Some-clause-joined : goal.returns-in-Some-clause-joined
returns-in-Some-clause-joined c =
    on-ok-then c.put.result
    (λ h. slot-written c.args.all.now c.put.new.self c.args.m c.args.name.now c.args.namespace c.in-Some.after h
    (λ o. join c.args.world.now c.args.m o c.args.offer)
    (ap (λ o. join c.args.world.now c.args.m o c.args.offer) (sym c.get-before.ensures) ∙ sym c.join.ensures.value ∙ c.in-Some.is)) c.put.ensures

pub returns-in-Some-clause-named : goal.returns-in-Some-clause-named
returns-in-Some-clause-named c =
    on-ok-then c.put.result
    (λ h. named-written c.args.world.now c.args.all.now c.put.new.self c.args.m c.args.name.now c.args.namespace c.in-Some.after h c.requires.all (c.join.ensures.named c.in-Some.after c.in-Some.is)) c.put.ensures
