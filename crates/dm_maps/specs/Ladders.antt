-- The module around each module of a world, as the table of ladders (jump pointers) has it.
use Rattle.std.specs.Prelude.{◌≡◌, List, Option, map}
use Rattle.std.specs.Option.{option_or}
use Rattle.dm_base.specs.declared.ids.ModuleId.{ModuleId}
use Rattle.dm_def_map.specs.Maps.{Map}
use Rattle.dm_maps.specs.Trees.{container_in, containers_of}
use Rattle.dm_maps.specs.declared.place.Place.{Place}

-- the module that contains what stands at a place: its parent, or for a block's root the module that contains the block
abbrev pub above_place : List (Option ModuleId) → Place → Option ModuleId
above_place cs p = option_or p.parent (container_in cs p.map.block)

-- the table has the containing module of what stands at each place, in order of number
pub record AreLaddered (ps : List Place) (bs : List Map) (ups : List (Option ModuleId)) : Type 0 where
  pub each : ups ≡ map (above_place (containers_of bs)) ps
