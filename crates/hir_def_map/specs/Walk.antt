-- Path resolution as a walk along the segments: the plain program, which gives the answer at the stop (specs/Paths).
use Rattle.std.specs.Prelude.{ℕ, ◌+◌, Bool, true, false, List, [], ◌∷◌, Option, Some, None, if◌then◌else◌}
use Rattle.dm_base.specs.declared.ids.ModuleId.{ModuleId}
use Rattle.dm_base.specs.declared.imports.ImportOrExternCrate.{ImportOrExternCrate}
use Rattle.dm_base.specs.declared.item_ids.ModuleDefId.{ModuleDefId}
use Rattle.dm_base.specs.declared.item_ids.ModuleDefId.TheVariants as def
use Rattle.dm_base.specs.declared.per_ns.Item.{Item}
use Rattle.dm_base.specs.declared.per_ns.PerNs.{PerNs}
use Rattle.dm_base.specs.Tree.{Tree, same_crate, crate_of, home}
use Rattle.dm_maps.specs.Readings.{Reading}
use Rattle.hir_def_map.specs.declared.path_resolution.result.ReachedFixedPoint.TheVariants.{Yes}
use Rattle.hir_def_map.specs.declared.path_resolution.result.ResolvePathResult.{ResolvePathResult}
use Rattle.hir_def_map.specs.declared.path_resolution.segments.Entered.{Entered}
use Rattle.hir_def_map.specs.Answers.{reached, nothing_no, stopped}
use Rattle.hir_def_map.specs.Paths.{module_in, seen_in, at_adt, is_empty}

-- an answer after the walk has come into another crate, if it has
abbrev pub crossed : Bool → ResolvePathResult → ResolvePathResult
crossed false a = a
crossed true a = record a { reached_fixedpoint = Yes; prefix_info = record { differing_crate = true; enum_variant = a.prefix_info.enum_variant } }

-- the state of a walk: whether it has come into another crate, from where it sees, what it has reached
pub record Stand : Type 0 where
  pub differing : Bool
  pub origin : ModuleId
  pub here : PerNs

abbrev pub starting : ModuleId → PerNs → Stand
starting f x = record { differing = false; origin = f; here = x }

-- a type, as what is reached
abbrev pub in_types : Option (Item ModuleDefId ImportOrExternCrate) → PerNs
in_types x = record { types = x; values = None; macros = None }

-- A path goes on by the type alone that it has reached: the state of a walk while segments are left.
abbrev pub standing : Bool → ModuleId → Option (Item ModuleDefId ImportOrExternCrate) → Stand
standing d f x = record { differing = d; origin = f; here = in_types x }

-- Into a module from a module: one of another crate is entered at the nearest module that is no block's root, which sees from then on.
abbrev pub entry : Tree → Bool → ModuleId → ModuleId → Entered
entry t d f m =
    if same_crate (crate_of t m) (crate_of t f)
    then record { differing = d; origin = f; krate = crate_of t f; asked = m }
    else record { differing = true; origin = home t m; krate = crate_of t (home t m); asked = home t m }

-- through a module and a segment
abbrev pub through : Tree → Stand → ModuleId → Reading → Stand
through t a m s = let e = entry t a.differing a.origin m in record { differing = e.differing; origin = e.origin; here = seen_in t e.origin s e.asked }

-- The answer where what is reached is no module and segments are left. `is_last` says that one is.
abbrev pub left_at : Item ModuleDefId ImportOrExternCrate → ℕ → Reading → Bool → ModuleDefId → ResolvePathResult
left_at i pos s is_last (def.AdtId c) = at_adt i pos s is_last c
left_at i pos s is_last _ = stopped i pos

-- one segment after another
abbrev pub walk : Tree → Stand → ℕ → List Reading → ResolvePathResult
walk t a pos [] = crossed a.differing (reached a.here)
walk t a pos (s ∷ rest) = elim a.here.types [
  | None ↦ crossed a.differing nothing_no
  | Some i ↦ elim (module_in i.def) [
    | Some m ↦ walk t (through t a m s) (pos + 1) rest
    | None ↦ crossed a.differing (left_at i pos s (is_empty rest) i.def)
  ]
]
