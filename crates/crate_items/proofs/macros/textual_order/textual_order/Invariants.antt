use Rattle.std.proofs.Common.{◌≡◌, drop}
use Rattle.crate_items.specs.TextualOrders.{ordered, ordered_from}
use Rattle.crate_items.proofs.macros.textual_order.textual_order.Given as goal

abbrev pub invariant-loop-home : goal.invariant-loop-home
invariant-loop-home l =
    ordered_from l.textual l.events.items l.home (drop l.home l.modules) ≡ ordered l.modules l.textual
