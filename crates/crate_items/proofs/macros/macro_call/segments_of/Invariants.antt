use Rattle.std.proofs.Common.{◌≡◌, ◌++◌, drop}
use Rattle.item_tree.specs.Imports.{segments_from}
use Rattle.crate_items.proofs.macros.macro_call.segments_of.Given as goal

abbrev pub invariant-loop-at : goal.invariant-loop-at
invariant-loop-at l =
    l.places.items ++ segments_from l.first l.at (drop l.at l.own) ≡ segments_from l.first 0 l.own
