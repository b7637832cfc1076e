-- Queries on the def maps of a world.
use Rattle.std.specs.Prelude.{◌≡◌, IsSome, Option, Some, option_and_then}
use Rattle.dm_base.specs.declared.ids.Crate.{Crate}
use Rattle.dm_base.specs.declared.ids.ModuleId.{ModuleId}
use Rattle.dm_base.specs.Names.{Name, find_name}
use Rattle.dm_def_map.specs.Maps.{Map, module_at}
use Rattle.dm_maps.specs.World.{World, crate_map}

-- the child of a name that a map lists for a module
abbrev pub child_in : Name → Map × ModuleId → Option ModuleId
child_in n x = option_and_then (λ d. find_name n d.children) (module_at x.0.modules x.1)

-- the module lies in the map of the crate itself, and in none of its blocks
abbrev pub LiesIn : World → Crate → ModuleId → Type 0
LiesIn w k m = (M : Map) → crate_map w k ≡ Some M → IsSome (module_at M.modules m)
