use Rattle.std.proofs.Common.{◌≡◌, ◌+◌, drop, length, take}
use Rattle.crate_tables.specs.BlockLists.{blocks_of}
use Rattle.crate_tables.specs.AssocItems.{AreAllAdded, Filled}
use Rattle.dm_maps.specs.Added.{IsGrown}
use Rattle.crate_tables.proofs.assoc_items.filling.add_all.Given as goal

-- whatever is added for the other crates, all is right
abbrev pub invariant-loop-krate : goal.invariant-loop-krate
invariant-loop-krate l = record {
  added : (all : Filled) → AreAllAdded l.files l.lists l.krate l.first (drop l.krate l.tables) (record { world = l.builder; places = l.places.items }) all
      → AreAllAdded l.files l.lists 0 0 l.tables (record { world = l.fn.builder; places = l.fn.places.items }) all;
  so_far : AreAllAdded l.files l.lists 0 0 (take l.krate l.tables) (record { world = l.fn.builder; places = l.fn.places.items }) (record { world = l.builder; places = l.places.items });
  before : l.first ≡ length (blocks_of (take l.krate l.tables));
  left : l.first + length (blocks_of (drop l.krate l.tables)) ≡ length (blocks_of l.tables);
  grown : IsGrown l.fn.builder l.builder;
}
