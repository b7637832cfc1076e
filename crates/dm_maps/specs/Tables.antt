-- The tables of a builder, as contracts see them.
use Rattle.dm_maps.specs.World.{World}
use Rattle.dm_maps.specs.declared.builder.WorldBuilder.TheInside.{Inside}

abbrev pub tables_of : Inside → World
tables_of w = record {
  crate_maps = w.maps.crates;
  block_maps = w.maps.blocks;
  places = w.places.items;
  local_maps = w.local_maps.items;
  uses = w.uses.items;
  items = w.items.items;
  enums = w.enums.entries;
  variants = w.variants.items;
  macros = w.macros.items;
  item_tables = w.item_tables;
  rules = w.rules;
}
