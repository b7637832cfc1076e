use Rattle.std.proofs.Common.{◌≡◌, ◌++◌, drop}
use Rattle.crate_items.proofs.macros.textual_order.push_events.Given as goal

abbrev pub invariant-loop-event : goal.invariant-loop-event
invariant-loop-event l = l.events.items ++ drop l.event-index l.more ≡ l.fn.events.items ++ l.more
