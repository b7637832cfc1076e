-- Which imports that find nothing may find something once macros are expanded.
use Rattle.std.specs.Prelude.{◌&&◌, ◌||◌, ◌==◌, ◌+◌, ℕ, Bool, true, false, List, [], ◌∷◌, Option, None, Some, is_none, is_some, take, if◌then◌else◌}
use Rattle.dm_base.specs.Path.{Path}
use Rattle.dm_base.specs.PerNs.{is_empty}
use Rattle.dm_base.specs.Tree.{is_among}
use Rattle.dm_base.specs.declared.mod_path.PathKind.{PathKind}
use Rattle.dm_base.specs.declared.mod_path.PathKind.TheVariants as kind
use Rattle.dm_base.specs.Names.{Name}
use Rattle.dm_base.specs.declared.ids.Crate.{Crate}
use Rattle.dm_base.specs.declared.ids.ModuleId.{ModuleId}
use Rattle.dm_maps.specs.ItemHomes.{homes_of}
use Rattle.dm_maps.specs.Readings.{is_2015_in, root_of}
use Rattle.dm_maps.specs.World.{World}
use Rattle.dm_retry.specs.Rounds.{path_meaning}
use Rattle.hir_def_map.specs.Paths.{type_module}
use Rattle.hir_def_map.specs.declared.path_resolution.result.ResolvePathResult.{ResolvePathResult}

-- the first so many segments of a path
abbrev pub prefix : Path → ℕ → Path
prefix p n = record { kind = p.kind; segments = take n p.segments }

abbrev pub prefix_meaning : World → ModuleId → Path → ℕ → ResolvePathResult
prefix_meaning w m p n = path_meaning w m (prefix p n)

-- a path leads nowhere, or not to its end
abbrev pub finds_nothing : ResolvePathResult → Bool
finds_nothing a = is_some a.segment_index || is_empty a.resolved_def

-- the module that an answer means
abbrev pub module_meant : ResolvePathResult → Option ModuleId
module_meant a = if is_none a.segment_index then type_module a.resolved_def.types else None

abbrev pub is_of_2015 : World → Option Crate → Bool
is_of_2015 w None = false
is_of_2015 w (Some k) = is_2015_in w k

abbrev pub root_in : World → Option Crate → Option ModuleId
root_in w None = None
root_in w (Some k) = root_of w k

abbrev pub by_kind : ModuleId → PathKind → Option ModuleId
by_kind m kind.Plain = Some m
by_kind m _ = None

-- the first name of a path is looked up in the module of the import, and in the edition 2015 in the root; behind two
-- colons in no module
abbrev pub first_place : World → ModuleId → PathKind → Option ModuleId
first_place w m k =
    if is_of_2015 w ((homes_of w).krate m) then root_in w ((homes_of w).krate m) else by_kind m k

abbrev pub begins_with_name : PathKind → Bool
begins_with_name kind.Plain = true
begins_with_name kind.Abs = true
begins_with_name _ = false

-- any other segment in the module that the segments before it mean
abbrev pub looked_up : World → ModuleId → Path → ℕ → Option ModuleId
looked_up w m p n =
    if (n == 0) && begins_with_name p.kind then first_place w m p.kind else module_meant (prefix_meaning w m p n)

abbrev pub missing_from : World → ModuleId → Path → ℕ → List Name → Option ModuleId
missing_from w m p n [] = None
missing_from w m p n (s ∷ ss) =
    if finds_nothing (prefix_meaning w m p (n + 1)) then looked_up w m p n else missing_from w m p (n + 1) ss

-- where the first segment is looked up up to which the path finds nothing
abbrev pub missing_in : World → ModuleId → Path → Option ModuleId
missing_in w m p = missing_from w m p 0 p.segments

abbrev pub is_open : List ModuleId → Option ModuleId → Bool
is_open ms None = false
is_open ms (Some m) = is_among m ms

-- an import that finds nothing is unknown, and not wrong, where that is an open module
abbrev pub is_hidden : World → List ModuleId → ModuleId → Path → Bool
is_hidden w ms m p = is_open ms (missing_in w m p)
