-- Lazily allocated maps.
use Rattle.std.specs.Prelude.{List, [], Option, None, Some}
use Rattle.indexmap.specs.IndexMap.{IndexMap}

-- what a map has that may not have been made
abbrev pub entries_of : {K V S : Type 0} → Option (IndexMap K V S) → List (K × V)
entries_of None = []
entries_of (Some m) = m.entries
