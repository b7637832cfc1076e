use Rattle.std.proofs.Common.{◌∙◌, ap, subst, sym}
use Rattle.std.specs.Option.{option_and_then}
use Rattle.dm_base.specs.declared.per_ns.PerNs.{PerNs}
use Rattle.dm_maps.specs.Holding.{res_holds}
use Rattle.dm_maps.specs.Known.{KnowsAll}
use Rattle.dm_retry.specs.Rounds.{given}
use Rattle.dm_retry.proofs.KnownLemmas.{resolved_items-is, to_push-is}
use Rattle.dm_retry.proofs.attempt.to_push.Goals as goal

pub returns-in-None-clause-value : goal.returns-in-None-clause-value
returns-in-None-clause-value c =
    let w = c.args.world.now in
    let p = c.args.pending.now in
    ap (option_and_then (given w p)) c.in-None.ensures ∙ to_push-is w p c.meaning-answer.result c.meaning-answer.ensures.value

pub given-requires-clause-items : goal.given-requires-clause-items
given-requires-clause-items c =
    subst (λ (y : PerNs). KnowsAll c.args.world.now (res_holds y)) (resolved_items-is c.meaning-answer.result c.in-Some.items (sym c.in-Some.ensures)) c.meaning-answer.ensures.known

pub returns-in-Some-clause-value : goal.returns-in-Some-clause-value
returns-in-Some-clause-value c =
    let w = c.args.world.now in
    let p = c.args.pending.now in
    c.given.ensures.value ∙ ap (option_and_then (given w p)) c.in-Some.ensures ∙ to_push-is w p c.meaning-answer.result c.meaning-answer.ensures.value
