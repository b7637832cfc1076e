use Rattle.std.proofs.Common.{◌≡◌, ◌++◌, drop}
use Rattle.std.specs.Prelude.{map}
use Rattle.crate_tables.specs.ScopeLists.{outline}
use Rattle.crate_tables.proofs.item_outline.outlines.Given as goal

abbrev pub invariant-loop-item : goal.invariant-loop-item
invariant-loop-item l = l.made.items ++ map outline (drop l.item-index l.items) ≡ map outline l.items
