-- What the paths of macro calls mean in a world.
use Rattle.std.specs.Prelude.{Bool, true, Option, None, Some, is_none, option_map, if◌then◌else◌}
use Rattle.dm_base.specs.Path.{Path}
use Rattle.dm_base.specs.declared.mod_path.PathKind.{PathKind}
use Rattle.dm_base.specs.declared.mod_path.PathKind.TheVariants as kind
use Rattle.dm_maps.specs.declared.check.held.HeldId.TheVariants as held
use Rattle.dm_def_map.specs.declared.modules.modes.BuiltinShadowMode.TheVariants as shadow
use Rattle.dm_def_map.specs.declared.modules.modes.MacroSubNs.TheVariants.{Bang}
use Rattle.dm_base.specs.declared.ids.ModuleId.{ModuleId}
use Rattle.dm_base.specs.declared.item_ids.MacroId.{MacroId}
use Rattle.dm_maps.specs.Known.{knows}
use Rattle.dm_maps.specs.World.{World}
use Rattle.dm_retry.specs.Rounds.{local_of}
use Rattle.hir_def_map.specs.Paths.{answer, asked}
use Rattle.hir_def_map.specs.declared.path_resolution.result.ResolveMode.TheVariants as mode
use Rattle.hir_def_map.specs.declared.path_resolution.result.ResolvePathResult.{ResolvePathResult}

-- the crate of a path's `$crate` is the world's, if the path has one
abbrev pub knows_path : World → PathKind → Bool
knows_path w (kind.DollarCrate k) = knows w (held.Crate k)
knows_path w _ = true

-- what the path of a call `path!(..)` means: it is no import, and a macro of that style is expected
abbrev pub macro_meaning : World → ModuleId → Path → ResolvePathResult
macro_meaning w m p = answer w (local_of w m) (asked m mode.Other shadow.Module (Some Bang) p.kind) p.segments

-- the macro that an answer has, where no segment is left
abbrev pub macro_in : ResolvePathResult → Option MacroId
macro_in a = if is_none a.segment_index then option_map (λ i. i.def) a.resolved_def.macros else None

-- the macro that a call calls
abbrev pub called_macro : World → ModuleId → Path → Option MacroId
called_macro w m p = macro_in (macro_meaning w m p)
