use Rattle.std.proofs.Common.{◌≡◌, ◌++◌, drop}
use Rattle.std.specs.List.{flat_map}
use Rattle.crate_items.specs.DeclaredItems.{declared_of}
use Rattle.crate_items.proofs.items.declared_item.declared_items.Given as goal

abbrev pub invariant-loop-row : goal.invariant-loop-row
invariant-loop-row l =
    l.found.items ++ flat_map (declared_of l.edition l.list l.files) (drop l.row-index l.rows) ≡ flat_map (declared_of l.edition l.list l.files) l.rows
