use Rattle.std.proofs.Common.{◌≡◌, ◌++◌, drop}
use Rattle.std.specs.List.{flat_map}
use Rattle.crate_tables.specs.ProceduralPairs.{pair_of}
use Rattle.crate_tables.proofs.procedural_pairs.pairs.Given as goal

abbrev pub invariant-loop-place : goal.invariant-loop-place
invariant-loop-place l = l.settings.items ++ flat_map (pair_of l.defs) (drop l.place-index l.places) ≡ flat_map (pair_of l.defs) l.places
