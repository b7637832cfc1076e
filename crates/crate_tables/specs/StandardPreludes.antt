-- The standard prelude of a crate in a builder, and what its attributes set there.
use Rattle.std.specs.Prelude.{◌&&◌, ℕ, Bool, List, Option, None, Some, codes, map, slice_get, if◌then◌else◌}
use Rattle.std.specs.List.{find, list_any}
use Rattle.std.specs.Option.{option_map}
use Rattle.std.specs.Str.{bytes_eq}
use Rattle.crate_items.specs.declared.items.crate_attributes.CrateAttribute.{CrateAttribute}
use Rattle.crate_items.specs.declared.items.crate_attributes.CrateAttribute.TheVariants as sets
use Rattle.crate_items.specs.Modules.{Listing}
use Rattle.crate_items.specs.PreludeModules.{prelude_module}
use Rattle.crate_items.specs.declared.files.dependency.Dependency.{Dependency}
use Rattle.crate_tables.specs.CrateRoots.{is_named, is_no_core}
use Rattle.crate_tables.specs.CrateTables.{Table}
use Rattle.crate_tables.specs.Visibilities.{id_at}
use Rattle.dm_def_map.specs.declared.crate_data.crate_setting.CrateSetting.{CrateSetting}
use Rattle.dm_def_map.specs.declared.crate_data.crate_setting.CrateSetting.TheVariants as setting
use Rattle.dm_base.specs.declared.ids.Crate.{Crate}
use Rattle.dm_base.specs.declared.ids.MapId.{MapId}
use Rattle.dm_base.specs.declared.ids.ModuleId.{ModuleId}
use Rattle.dm_base.specs.declared.ids.UseId.{UseId}
use Rattle.dm_base.specs.declared.edition.Edition.{Edition}
use Rattle.dm_maps.specs.BuildCrateData.{with_crate_settings}
use Rattle.dm_maps.specs.BuildMaps.{with_prelude}
use Rattle.dm_maps.specs.World.{World}

-- ---- Attributes

-- an attribute of a crate as its def map has it
abbrev pub setting_of : CrateAttribute → CrateSetting
setting_of sets.NoStd = setting.NoStd
setting_of sets.NoCore = setting.NoCore
setting_of sets.CoherenceIsCore = setting.CoherenceIsCore
setting_of (sets.RecursionLimit limit) = setting.RecursionLimit limit
setting_of (sets.Feature feature) = setting.Feature feature

-- all of them are set, in order
abbrev pub with_attributes : World → Crate → List CrateAttribute → World
with_attributes w k attrs = with_crate_settings w k (map setting_of attrs)

-- ---- The prelude

-- the crate of a name in the extern prelude: that of the first dependency which has it there
abbrev pub is_named_so : List CrateAttribute → List ℕ → Dependency → Bool
is_named_so attrs name d = is_named attrs d && bytes_eq d.name name

abbrev pub crate_named : List CrateAttribute → List Dependency → List ℕ → Option Crate
crate_named attrs ds name = option_map (λ d. d.crate_id) (find (is_named_so attrs name) ds)

-- the first of two crates that is there
abbrev pub first_of : Option Crate → Option Crate → Option Crate
first_of None other = other
first_of (Some k) other = Some k

-- The crate that has the preludes: `std`, if that is in the extern prelude, and else `core`. Under `no_std` it is `core`.
abbrev pub library_in : List CrateAttribute → List Dependency → Option Crate
library_in attrs ds = first_of (crate_named attrs ds (codes "std")) (crate_named attrs ds (codes "core"))

-- there is none with `no_core`
abbrev pub library : List CrateAttribute → List Dependency → Option Crate
library attrs ds = if list_any is_no_core attrs then None else library_in attrs ds

-- the id of a module, by its number in the list of its crate
abbrev pub id_of : Option Table → ℕ → Option ModuleId
id_of None n = None
id_of (Some t) n = id_at t.ids n

abbrev pub id_in : List Table → Crate → Option ℕ → Option ModuleId
id_in tables k None = None
id_in tables k (Some n) = id_of (slice_get tables k.0) n

abbrev pub prelude_of : List Table → Crate → Edition → Option Listing → Option ModuleId
prelude_of tables k e None = None
prelude_of tables k e (Some l) = id_in tables k (prelude_module l.modules e)

abbrev pub prelude_in : List Listing → List Table → Edition → Option Crate → Option ModuleId
prelude_in lists tables e None = None
prelude_in lists tables e (Some k) = prelude_of tables k e (slice_get lists k.0)

-- The standard prelude of a crate with these attributes, edition and dependencies: the module for its edition in its
-- library. There is none where there is no such crate or module. Lists and tables are those of all crates, by their
-- numbers.
abbrev pub standard_prelude : List Listing → List Table → Edition → List CrateAttribute → List Dependency → Option ModuleId
standard_prelude lists tables e attrs ds = prelude_in lists tables e (library attrs ds)

-- no use named it
abbrev pub unnamed : ModuleId → ModuleId × Option UseId
unnamed m = (m, None)

-- the map of a crate itself
abbrev pub own_map : Crate → MapId
own_map k = record { krate = k; block = None }

abbrev pub with_crate_prelude : World → Crate → Option (ModuleId × Option UseId) → World
with_crate_prelude w k named = with_prelude w (own_map k) named
