use Rattle.std.proofs.Common.{◌≡◌, ◌++◌, drop}
use Rattle.std.specs.List.{flat_map}
use Rattle.crate_items.specs.DeclaredMacros.{used_by}
use Rattle.crate_items.proofs.macros.declared_macro.used_names.Given as goal

abbrev pub invariant-loop-kind : goal.invariant-loop-kind
invariant-loop-kind l =
    l.names.items ++ flat_map (used_by l.text l.lexemes) (drop l.kind-index l.kinds) ≡ flat_map (used_by l.text l.lexemes) l.kinds
