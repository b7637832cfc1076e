use Rattle.std.proofs.Common.{◌≡◌, ◌++◌, drop}
use Rattle.std.specs.Prelude.{All}
use Rattle.crate_items.specs.Modules.{IsKnown, founds_from}
use Rattle.crate_items.proofs.files.found.founds.Given as goal

abbrev pub invariant-loop-item : goal.invariant-loop-item
invariant-loop-item l =
    (l.found.items ++ founds_from l.files l.number l.outer (drop l.item-index l.items) ≡ founds_from l.files l.number l.outer l.items) × All (IsKnown l.files) l.found.items
