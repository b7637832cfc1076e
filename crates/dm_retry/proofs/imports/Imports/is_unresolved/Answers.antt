use Rattle.std.proofs.Common.{◌≡◌, ◌∙◌, Bool, true, false, not, Option, Some, None, ap, is_none, is_some, refl, slice_get, sym, true≢false}
use Rattle.std.specs.Option.{option_map}
use Rattle.dm_retry.specs.Rounds.{State, finds_nothing}
use Rattle.dm_retry.proofs.imports.Imports.is_unresolved.Goals as goal

pub to_push-requires : goal.to_push-requires
to_push-requires c = record { known = c.self.invariant.known c.args.i c.in_ok-pending.pending.now (ap (λ (s : State). slice_get s.pending c.args.i) c.self.view_is ∙ sym c.in_ok-pending.ensures) }

none-of : {X : Type 0} (o : Option X) (b : Bool) → is_some o ≡ not b → b ≡ is_none o
none-of None true h = refl
none-of None false h = absurd (true≢false (sym h))
none-of (Some x) true h = absurd (true≢false h)
none-of (Some x) false h = refl

pub returns : goal.returns
returns c =
    let p = c.in_ok-pending.pending.now in
    ap Some (none-of c.to_push.result c.is_none.result c.is_none.ensures ∙ ap is_none c.to_push.ensures.value)
    ∙ ap (λ (s : State). Some (finds_nothing s.world p)) c.self.view_is
    ∙ ap (option_map (finds_nothing c.args.self.now.world)) c.in_ok-pending.ensures
