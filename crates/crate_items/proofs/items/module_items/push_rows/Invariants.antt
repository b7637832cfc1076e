use Rattle.std.proofs.Common.{◌≡◌, ◌++◌, drop}
use Rattle.std.specs.Prelude.{map}
use Rattle.crate_items.specs.ModuleItems.{row_of}
use Rattle.crate_items.proofs.items.module_items.push_rows.Given as goal

abbrev pub invariant-loop-homed : goal.invariant-loop-homed
invariant-loop-homed l =
    l.rows.items ++ map (row_of l.number l.home) (drop l.homed-index l.items) ≡ l.fn.rows.items ++ map (row_of l.number l.home) l.items
