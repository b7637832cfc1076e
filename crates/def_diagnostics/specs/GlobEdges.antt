-- Which modules have globs of which modules.
use Rattle.std.specs.Prelude.{◌&&◌, Option, None, if◌then◌else◌}
use Rattle.std.specs.Option.{option_map}
use Rattle.def_diagnostics.specs.Hidden.{module_meant}
use Rattle.def_diagnostics.specs.MacroMeanings.{knows_path}
use Rattle.def_diagnostics.specs.declared.open_modules.GlobEdge.{GlobEdge}
use Rattle.dm_base.specs.Path.{Path}
use Rattle.dm_maps.specs.declared.check.held.HeldId.TheVariants as held
use Rattle.dm_base.specs.declared.ids.ModuleId.{ModuleId}
use Rattle.dm_maps.specs.Known.{knows}
use Rattle.dm_maps.specs.World.{World}
use Rattle.dm_retry.specs.Rounds.{path_meaning}

-- the module that the path of a glob means, if the world has what it names
abbrev pub source_of : World → ModuleId → Path → Option ModuleId
source_of w into p =
    if knows w (held.Module into) && knows_path w p.kind then module_meant (path_meaning w into p) else None

abbrev pub edge_of : ModuleId → ModuleId → GlobEdge
edge_of into from = record { into = into; from = from }

-- the glob leads from that module into its own
abbrev pub glob_edge : World → ModuleId → Path → Option GlobEdge
glob_edge w into p = option_map (edge_of into) (source_of w into p)
