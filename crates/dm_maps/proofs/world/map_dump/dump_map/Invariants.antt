use Rattle.std.proofs.Common.{◌≡◌, ◌++◌, length, string_bytes}
use Rattle.dm_maps.specs.MapDumps.{map_dump}
use Rattle.dm_maps.specs.MapFacts.{IsMapOf}
use Rattle.dm_maps.specs.Outwards.{maps_outwards}
use Rattle.dm_maps.proofs.world.map_dump.dump_map.Given as goal

-- what is written, with the dump of the map that is next, is all
abbrev pub invariant-maps : goal.invariant-maps
invariant-maps l = record {
  text : string_bytes l.text ++ map_dump l.world l.map ≡ map_dump l.world l.first;
  facts : IsMapOf l.world l.map;
}

abbrev pub decreases-maps : goal.decreases-maps
decreases-maps l = length (maps_outwards l.world l.map l.map.root)
