-- The numbers of parts of a list of crates.
use Rattle.std.proofs.lemmas.List.{drop-map, length-map, map_more, map_push, take-map}

pub ruleset mapped = (drop-map, length-map, map_more, map_push, take-map)
