-- Setters for crate data, which all def maps of a crate share.
use Rattle.std.specs.Prelude.{◌≡◌, nat_eq, List, [], ◌∷◌, Option, None, map, if◌then◌else◌}
use Rattle.std.specs.List.{fold}
use Rattle.std.specs.Option.{option_map_or, option_or}
use Rattle.dm_base.specs.declared.ids.Crate.{Crate}
use Rattle.dm_def_map.specs.CrateData.{CrateData, fresh_data, with_setting}
use Rattle.dm_def_map.specs.declared.crate_data.crate_setting.CrateSetting.{CrateSetting}
use Rattle.dm_def_map.specs.Maps.{Map}
use Rattle.dm_maps.specs.BuildMaps.{crate_fault}
use Rattle.dm_maps.specs.declared.build_fault.BuildFault.{BuildFault}
use Rattle.dm_maps.specs.Maps.{Maps}
use Rattle.dm_maps.specs.World.{World, crate_map, maps_of, with_maps}

-- a map with that data, if it is one of the crate
abbrev pub map_with_shared : Crate → CrateData → Map → Map
map_with_shared k d m = if nat_eq m.id.krate.0 k.0 then record m { shared = d } else m

-- the maps, those of crate k with that data
abbrev pub with_shared : Crate → CrateData → List Map → List Map
with_shared k d ms = map (map_with_shared k d) ms

-- all maps of a crate, its own and those of its blocks, share that data
abbrev pub maps_sharing : Maps → Crate → CrateData → Maps
maps_sharing ms k d = record { crates = with_shared k d ms.crates; blocks = with_shared k d ms.blocks }

abbrev pub sharing : World → Crate → CrateData → World
sharing w k d = with_maps w (maps_sharing (maps_of w) k d)

-- the data of a crate
abbrev pub data_of : World → Crate → CrateData
data_of w k = option_map_or (λ m. m.shared) (crate_map w k) fresh_data

-- what its maps share is the data of a crate
abbrev pub TakesData : World → Crate → Type 0
TakesData w k = (d : CrateData) → data_of (sharing w k d) k ≡ d

-- the world, in which all maps of a crate share what f makes of its data
abbrev pub with_data : World → Crate → (CrateData → CrateData) → World
with_data w k f = sharing w k (f (data_of w k))

-- the world after the call that sets one thing for a crate
abbrev pub with_crate_setting : World → Crate → CrateSetting → World
with_crate_setting w k s = with_data w k (λ d. with_setting d s)

-- the world after such calls, one after another
abbrev pub with_crate_settings : World → Crate → List CrateSetting → World
with_crate_settings w k settings = fold (λ v s. with_crate_setting v k s) w settings

-- the first fault that such calls tell, one after another: none where there is no call
abbrev pub settings_fault : World → Crate → List CrateSetting → Option BuildFault
settings_fault w k [] = None
settings_fault w k (s ∷ settings) = option_or (crate_fault w k) (settings_fault (with_crate_setting w k s) k settings)
