-- Indexes of a builder: what it keeps beside its tables for fast look-ups.
use Rattle.std.specs.Prelude.{List, Option, length}
use Rattle.dm_base.specs.declared.ids.BlockId.{BlockId}
use Rattle.dm_base.specs.declared.ids.ModuleId.{ModuleId}
use Rattle.dm_def_map.specs.Maps.{Map}
use Rattle.dm_maps.specs.BlockLists.{AreGathered, crates_of}
use Rattle.dm_maps.specs.Ladders.{AreLaddered}
use Rattle.dm_maps.specs.declared.place.Place.{Place}

-- the ladders, and the lists of the blocks of each crate, say what the tables say
pub record AreIndexed (ps : List Place) (cs bs : List Map) (ups : List (Option ModuleId)) (ls : List (List BlockId)) : Type 0 where
  pub ladders : AreLaddered ps bs ups
  pub lists : AreGathered (length cs) (crates_of bs) ls
