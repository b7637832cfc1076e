use Rattle.std.proofs.Common.{◌≡◌, drop}
use Rattle.crate_items.specs.TextualScopes.{all_met}
use Rattle.crate_items.proofs.macros.textual_scopes.meet_all.Given as goal

abbrev pub invariant-loop-event : goal.invariant-loop-event
invariant-loop-event l = all_met l.modules l.items l.left l.scopes.items (drop l.event-index l.events) ≡ all_met l.modules l.items l.left l.fn.scopes.items l.events
