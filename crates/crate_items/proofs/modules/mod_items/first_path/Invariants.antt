use Rattle.std.proofs.Common.{◌≡◌, drop}
use Rattle.std.specs.Prelude.{None}
use Rattle.crate_items.specs.ModItems.{path_behind}
use Rattle.crate_items.proofs.modules.mod_items.first_path.Given as goal

abbrev pub invariant-loop-attribute : goal.invariant-loop-attribute
invariant-loop-attribute l =
    path_behind l.active l.found (drop l.attribute-index l.attributes) ≡ path_behind l.active None l.attributes
