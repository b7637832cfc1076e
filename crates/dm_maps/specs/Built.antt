-- Invariants of the tables of every builder, checked or not.
use Rattle.dm_maps.specs.World.{World}
use Rattle.dm_maps.specs.Trees.{IsWorld}
use Rattle.dm_maps.specs.Family.{IsFamily}
use Rattle.dm_maps.specs.Lists.{IsListed}

-- Its modules and maps stand as those of a world do, its lists hold modules and enums of its own, and the maps of each
-- crate are a family.
abbrev pub IsBuilt : World → Type 0
IsBuilt w = IsWorld w × IsListed w × IsFamily w
