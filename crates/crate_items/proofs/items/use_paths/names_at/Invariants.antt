use Rattle.std.proofs.Common.{◌≡◌, ◌++◌, drop}
use Rattle.std.specs.List.{flat_map}
use Rattle.crate_items.specs.UsePaths.{name_list}
use Rattle.crate_items.proofs.items.use_paths.names_at.Given as goal

abbrev pub invariant-loop-place : goal.invariant-loop-place
invariant-loop-place l =
    l.names.items ++ flat_map (name_list l.text l.lexemes) (drop l.place-index l.places) ≡ flat_map (name_list l.text l.lexemes) l.places
