use Rattle.std.proofs.Common.{◌≡◌, ◌++◌, drop}
use Rattle.std.specs.List.{flat_map}
use Rattle.crate_items.specs.CrateAttributes.{set_by}
use Rattle.crate_items.proofs.items.crate_attributes.set_by_all.Given as goal

abbrev pub invariant-loop-kind : goal.invariant-loop-kind
invariant-loop-kind l =
    l.found.items ++ flat_map (set_by l.text l.lexemes) (drop l.kind-index l.kinds) ≡ flat_map (set_by l.text l.lexemes) l.kinds
