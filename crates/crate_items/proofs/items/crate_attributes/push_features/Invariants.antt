use Rattle.std.proofs.Common.{◌≡◌, ◌++◌, drop}
use Rattle.std.specs.Prelude.{map}
use Rattle.crate_items.specs.CrateAttributes.{feature}
use Rattle.crate_items.proofs.items.crate_attributes.push_features.Given as goal

abbrev pub invariant-loop-name : goal.invariant-loop-name
invariant-loop-name l =
    l.found.items ++ map feature (drop l.name-index l.names) ≡ l.fn.found.items ++ map feature l.names
