-- A mock module tree in two tables, and a small instance of it.
use Rattle.std.specs.Prelude.{ℕ, List, [], ◌∷◌, Some, None, nat_lt, length, slice_get}
use Rattle.std.specs.Option.{option_map_or, option_and_then}
use Rattle.dm_base.specs.declared.ids.ModuleId.{ModuleId}
use Rattle.dm_base.specs.declared.ids.MapId.{MapId}
use Rattle.dm_base.specs.Tree.{Tree}
use Rattle.defmap_callers.specs.declared.tree.Place.{Place}

-- a crate's map, and a block's map in crate 0
abbrev pub crate_map : ℕ → MapId
crate_map k = record { krate = record { 0 = k }; block = None }

abbrev pub block_map : ℕ → MapId
block_map b = record { krate = record { 0 = 0 }; block = Some (record { 0 = b }) }

-- The modules at these places, where block b lies in the module at b of the second table. What is said of a module that is not there is
-- without meaning.
abbrev pub tree_by : List Place → List ModuleId → Tree
tree_by places blocks = record {
  has = λ m. nat_lt m.0 (length places);
  map_of = λ m. option_map_or (λ p. p.map) (slice_get places m.0) (crate_map 0);
  parent = λ m. option_and_then (λ p. p.parent) (slice_get places m.0);
  inside = λ b. slice_get blocks b.0;
}

abbrev root : MapId → Place
root map = record { map = map; parent = None }

abbrev below : ℕ → MapId → Place
below p map = record { map = map; parent = Some (record { 0 = p }) }

-- Crate 0 has its root 0, in it 1, 3 and 7, and 2 in 1. Block 0, in module 1, has its root 5, and 6 in it; block 1, in module 0, has its root
-- 8; block 2, in module 6, has its root 9. Crate 1 has its root 4.
abbrev pub small_places : List Place
small_places =
    root (crate_map 0) ∷ below 0 (crate_map 0) ∷ below 1 (crate_map 0) ∷ below 0 (crate_map 0) ∷ root (crate_map 1)
    ∷ root (block_map 0) ∷ below 5 (block_map 0) ∷ below 0 (crate_map 0) ∷ root (block_map 1) ∷ root (block_map 2) ∷ []

abbrev pub small_blocks : List ModuleId
small_blocks = record { 0 = 1 } ∷ record { 0 = 0 } ∷ record { 0 = 6 } ∷ []
