use Rattle.std.proofs.Common.{◌≡◌, ◌++◌, drop}
use Rattle.std.specs.List.{flat_map}
use Rattle.crate_items.specs.TextualOrders.{event_in}
use Rattle.crate_items.proofs.macros.textual_order.push_items.Given as goal

abbrev pub invariant-loop-item : goal.invariant-loop-item
invariant-loop-item l = l.events.items ++ flat_map (event_in l.home) (drop l.item-index l.textual) ≡ l.fn.events.items ++ flat_map (event_in l.home) l.textual
