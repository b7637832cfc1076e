use Rattle.std.proofs.Common.{◌≡◌, ◌++◌, drop}
use Rattle.crate_items.specs.TextualOrders.{textual_from}
use Rattle.crate_items.proofs.macros.textual_order.textual_items.Given as goal

abbrev pub invariant-loop-number : goal.invariant-loop-number
invariant-loop-number l = l.found.items ++ textual_from l.number (drop l.number l.items) ≡ textual_from 0 l.items
