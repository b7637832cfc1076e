use Rattle.std.proofs.Common.{◌≡◌, ◌++◌, drop}
use Rattle.crate_items.specs.FileItems.{homed_from}
use Rattle.crate_items.proofs.items.file_items.items_in_tree.Given as goal

abbrev pub invariant-loop-number : goal.invariant-loop-number
invariant-loop-number l =
    l.found.items ++ homed_from l.source l.number (drop l.number l.items) ≡ homed_from l.source 0 l.items
