-- Unresolved imports, and what a round of resolution makes of a world and its glob table.
use Rattle.std.specs.Prelude.{ℕ, zero, suc, ◌+◌, ◌&&◌, ◌||◌, Bool, true, false, not, List, [], ◌∷◌, ◌++◌, Option, Some, None, if◌then◌else◌, is_none, length, map, slice_get, slice_set}
use Rattle.std.specs.Option.{option_map, option_map_or, option_and_then}
use Rattle.dm_base.specs.declared.ids.ModuleId.{ModuleId}
use Rattle.dm_base.specs.declared.imports.ImportId.{ImportId}
use Rattle.dm_base.specs.declared.imports.ImportOrExternCrate.{ImportOrExternCrate}
use Rattle.dm_base.specs.declared.imports.ImportOrExternCrate.TheVariants as wide
use Rattle.dm_base.specs.declared.per_ns.PerNs.{PerNs}
use Rattle.dm_base.specs.declared.visibility.Visibility.{Visibility}
use Rattle.dm_base.specs.Names.{Name}
use Rattle.dm_base.specs.Path.{Path}
use Rattle.dm_base.specs.PerNs.{is_empty}
use Rattle.dm_def_map.specs.declared.modules.modes.BuiltinShadowMode.TheVariants as shadow
use Rattle.dm_def_map.specs.Maps.{LocalMap}
use Rattle.dm_scope.specs.Flags.{Globs}
use Rattle.dm_scope.specs.Push.{globs_after, push_answer}
use Rattle.dm_maps.specs.Cut.{among}
use Rattle.dm_maps.specs.ItemHomes.{homes_of}
use Rattle.dm_maps.specs.PushRes.{with_push}
use Rattle.dm_maps.specs.Trees.{tree_of}
use Rattle.dm_maps.specs.World.{World, scope_of}
use Rattle.hir_def_map.specs.declared.path_resolution.result.ResolveMode.TheVariants as mode
use Rattle.hir_def_map.specs.declared.path_resolution.result.ResolvePathResult.{ResolvePathResult}
use Rattle.hir_def_map.specs.Paths.{answer, asked}
use Rattle.dm_retry.specs.declared.import_kind.ImportKind.{ImportKind}
use Rattle.dm_retry.specs.Kinds.{by_kind, if_any, is_unnamed}
use Rattle.dm_retry.specs.Unnamed.{unnamed_answer, with_unnamed}

-- An unresolved import: the module that contains it, the name that it binds there, its path, the visibility of what it
-- binds, its kind, and whether it is due (dirty).
pub record Pending : Type 0 where
  pub origin : ModuleId
  pub name : Name
  pub path : Path
  pub visibility : Visibility
  pub kind : ImportKind
  pub import : ImportId
  pub due : Bool

-- A world, a glob table, and the unresolved imports, in order, of which some are due.
pub record State : Type 0 where
  pub world : World
  pub globs : Globs
  pub pending : List Pending

-- ---- What an import resolves to

-- the extern prelude of a module's crate
abbrev pub local_of : World → ModuleId → LocalMap
local_of w m = option_map_or (λ l. l) (option_and_then (λ k. slice_get w.local_maps k.0) ((homes_of w).krate m)) []

-- what a path means for an import of module m
abbrev pub path_meaning : World → ModuleId → Path → ResolvePathResult
path_meaning w m p = answer w (local_of w m) (asked m mode.Import shadow.Module None p.kind) p.segments

-- what the path of an import means
abbrev pub meaning : World → Pending → ResolvePathResult
meaning w p = path_meaning w p.origin p.path

-- what an answer has for an import: its items, where no segment is left and something is bound
abbrev pub resolved_items : ResolvePathResult → Option PerNs
resolved_items a = if is_none a.segment_index && not (is_empty a.resolved_def) then Some a.resolved_def else None

-- what an import brings of some items, if anything
abbrev pub given : World → Pending → PerNs → Option PerNs
given w p x = if_any (by_kind (tree_of w) p.origin p.visibility p.kind x)

-- what a try pushes, if it pushes: what the import brings of what its path means
unfoldable pub to_push : World → Pending → Option PerNs
to_push w p = option_and_then (given w p) (resolved_items (meaning w p))

-- whether an import is unresolved: its path resolves to nothing, or a segment of it is left
abbrev pub finds_nothing : World → Pending → Bool
finds_nothing w p = is_none (to_push w p)

-- the indices of those that are unresolved, in order, where the first of these is at index i
abbrev pub unresolved_from : World → ℕ → List Pending → List ℕ
unresolved_from w i [] = []
unresolved_from w i (p ∷ ps) = if finds_nothing w p then i ∷ unresolved_from w (i + 1) ps else unresolved_from w (i + 1) ps

abbrev pub unresolved : State → List ℕ
unresolved s = unresolved_from s.world 0 s.pending

-- the import of its push
abbrev pub by_import : Pending → Option ImportOrExternCrate
by_import p = Some (wide.Import p.import)

-- The world and the glob table after that push, and what it answers. An import as `_` pushes a trait among the unnamed
-- ones, and any other under its name.
abbrev pub world_after : World → Globs → Pending → Option PerNs → World
world_after w g p None = w
world_after w g p (Some x) =
    if is_unnamed p.kind then with_unnamed w p.origin p.visibility p.import x else with_push w g p.origin p.name x (by_import p)

abbrev pub globs_with : World → Globs → Pending → Option PerNs → Globs
globs_with w g p None = g
globs_with w g p (Some x) =
    if is_unnamed p.kind then g else globs_after (scope_of w p.origin) g p.origin p.name x (by_import p)

abbrev pub answered : World → Globs → Pending → Option PerNs → Bool
answered w g p None = false
answered w g p (Some x) =
    if is_unnamed p.kind then unnamed_answer w p.origin p.visibility x
    else push_answer (scope_of w p.origin) g p.origin p.name x (by_import p)

-- whether a try of the import pushes, and its push changes the scope
abbrev pub would_write : World → Globs → Pending → Bool
would_write w g p = answered w g p (to_push w p)

-- ---- Tries and rounds

abbrev pub marked : Bool → Pending → Pending
marked due p = record p { due = due }

-- the imports with a mark for the one at place i
abbrev pub marked_at : List Pending → ℕ → Bool → List Pending
marked_at ps i due = option_map_or (λ p. slice_set ps i (marked due p)) (slice_get ps i) ps

-- an import becomes due by a push under a name that is a segment of its path, and else stays as it is
abbrev pub awoken : Name → Pending → Pending
awoken n p = marked (p.due || among p.path.segments n) p

-- the name that the import at place i binds
abbrev pub name_at : List Pending → ℕ → Name
name_at ps i = option_map_or (λ p. p.name) (slice_get ps i) []

-- The imports after a try of the one at place i: it is no longer due; and where its push changed the scope, each import
-- whose path has the pushed name as a segment is due.
abbrev pub marked_after : List Pending → ℕ → Bool → List Pending
marked_after ps i written = let rest = marked_at ps i false in if written then map (awoken (name_at ps i)) rest else rest

-- a try of the import p at place i
abbrev pub tried : State → ℕ → Pending → State
tried s i p = record {
  world = world_after s.world s.globs p (to_push s.world p);
  globs = globs_with s.world s.globs p (to_push s.world p);
  pending = marked_after s.pending i (would_write s.world s.globs p);
}

abbrev pub try_at : State → ℕ → State
try_at s i = option_map_or (tried s i) (slice_get s.pending i) s

-- whether the push of that try changes the scope, and whether its import is due
abbrev pub would_write_at : State → ℕ → Bool
would_write_at s i = option_map_or (would_write s.world s.globs) (slice_get s.pending i) false

abbrev pub is_due : State → ℕ → Bool
is_due s i = option_map_or (λ p. p.due) (slice_get s.pending i) false

-- after tries of the first n imports, each once, in order
abbrev pub after : State → ℕ → State
after s zero = s
after s (suc n) = try_at (after s n) n

-- whether a push of those tries changes a scope
abbrev pub any_would_write : State → ℕ → Bool
any_would_write s zero = false
any_would_write s (suc n) = any_would_write s n || would_write_at (after s n) n

-- how many of those imports are due at their turn
abbrev pub due_turns : State → ℕ → ℕ
due_turns s zero = 0
due_turns s (suc n) = due_turns s n + (if is_due (after s n) n then 1 else 0)

-- A round: a try of each import in order, due or not; and whether a push of it changes a scope.
abbrev pub round : State → State
round s = after s (length s.pending)

abbrev pub round_answer : State → Bool
round_answer s = any_would_write s (length s.pending)

-- any number of rounds, one after another
abbrev pub rounds : ℕ → State → State
rounds zero s = s
rounds (suc n) s = round (rounds n s)

-- What an allocation failure at the try of the import at place i leaves: the tries before it are kept, and it is due.
abbrev pub refused_at : State → ℕ → State
refused_at s i = record s { pending = marked_at s.pending i true }

-- One import more between rounds: it is the last, and due.
abbrev pub added : State → Pending → State
added s p = record s { pending = s.pending ++ marked true p ∷ [] }

-- A push between rounds; where it changes the scope, each import whose path has the pushed name as a segment is due.
abbrev pub pushed_into : State → ModuleId → Name → PerNs → Option ImportOrExternCrate → State
pushed_into s m n x by = record {
  world = with_push s.world s.globs m n x by;
  globs = globs_after (scope_of s.world m) s.globs m n x by;
  pending = if push_answer (scope_of s.world m) s.globs m n x by then map (awoken n) s.pending else s.pending;
}

-- Another change of the world between rounds, in what it has under a name: each import whose path has that name as a
-- segment is due.
abbrev pub changed_under : State → Name → World → State
changed_under s n w = record s { world = w; pending = map (awoken n) s.pending }

-- and one that no path reads: which imports are due stays
abbrev pub changed_beside : State → World → State
changed_beside s w = record s { world = w }
