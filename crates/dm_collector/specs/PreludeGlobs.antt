-- Globs under `#[prelude_import]`: they name the prelude of their crate, and bring no names.
use Rattle.std.specs.Prelude.{◌==◌, Bool, false, List, [], ◌∷◌, Option, None, Some, if◌then◌else◌}
use Rattle.dm_imports.specs.declared.glob_import.GlobImport.{GlobImport}
use Rattle.dm_def_map.specs.Maps.{Map}
use Rattle.dm_base.specs.declared.ids.ModuleId.{ModuleId}
use Rattle.dm_base.specs.declared.ids.UseId.{UseId}
use Rattle.dm_maps.specs.World.{World, crate_map}

-- a prelude that this use names
abbrev pub is_named_by : UseId → Option (ModuleId × Option UseId) → Bool
is_named_by u (Some (m, Some naming)) = naming.0 == u.0
is_named_by u _ = false

-- the prelude of a crate's map
abbrev pub prelude_in : Option Map → Option (ModuleId × Option UseId)
prelude_in None = None
prelude_in (Some m) = m.prelude

-- a glob in the root of a crate whose prelude its use names; the root has the number of the crate
abbrev pub names_prelude : World → GlobImport → Bool
names_prelude w g = is_named_by g.import.use_ (prelude_in (crate_map w (record { 0 = g.into.0 })))

abbrev pub unless_named : World → GlobImport → List GlobImport
unless_named w g = if names_prelude w g then [] else g ∷ []
