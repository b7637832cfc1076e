-- What a builder has after a call that adds something: all that it had, and what was added.
use Rattle.std.specs.Prelude.{◌≡◌, false, IsTrue, List, [], Option, None, Some, length, nat_lt}
use Rattle.std.specs.List.{AllByRecursion}
use Rattle.dm_base.specs.declared.ids.BlockId.{BlockId}
use Rattle.dm_base.specs.declared.ids.Crate.{Crate}
use Rattle.dm_base.specs.declared.ids.MapId.{MapId}
use Rattle.dm_base.specs.declared.ids.ModuleId.{ModuleId}
use Rattle.dm_base.specs.Tree.{same_module}
use Rattle.dm_scope.specs.Flags.{Globs}
use Rattle.dm_scope.specs.Scope.{Scope, no_scope}
use Rattle.dm_scope.specs.Shows.{Shows}
use Rattle.dm_maps.specs.declared.check.held.HeldId.{HeldId}
use Rattle.dm_maps.specs.declared.check.held.HeldId.TheVariants as held
use Rattle.dm_maps.specs.Build.{next_module}
use Rattle.dm_maps.specs.BuildBlocks.{crate_in}
use Rattle.dm_maps.specs.Known.{knows, KnowsAll}
use Rattle.dm_maps.specs.PushRes.{StaysShown}
use Rattle.dm_maps.specs.Readings.{block_root_of, root_of}
use Rattle.dm_maps.specs.Trees.{container_in, containers_of, map_id_in, parent_in}
use Rattle.dm_maps.specs.World.{World, place_of, scope_of}

-- v has what w had.
pub record IsGrown (w v : World) : Type 0 where
  -- each id that was known is known, and so is what holds ids
  pub known : (h : HeldId) → IsTrue (knows w h) → IsTrue (knows v h)
  pub all : (hs : List HeldId) → KnowsAll w hs → KnowsAll v hs
  -- each scope is as it was, and shows with any table of flags what it showed
  pub scopes : (k : ModuleId) → scope_of v k ≡ scope_of w k
  pub shown : (g : Globs) (k : ModuleId) → StaysShown w g v g k
  -- each module stands in the map and below the parent where it stood
  pub places : (k : ModuleId) → IsTrue (knows w (held.Module k)) → place_of v k ≡ place_of w k

-- Ids were added: none of them was known, and all of them are.
pub record AreAdded (w v : World) (hs : List HeldId) : Type 0 where
  pub grown : IsGrown w v
  pub fresh : AllByRecursion (λ h. knows w h ≡ false) hs
  pub known : KnowsAll v hs

-- The module m was added, in the map of that id, below that parent: none where it is a root.
pub record IsAddedModule (w v : World) (id : MapId) (up : Option ModuleId) (m : ModuleId) : Type 0 where
  pub grown : IsGrown w v
  pub known : IsTrue (knows v (held.Module m))
  -- it is none of those that were known
  pub fresh : (k : ModuleId) → IsTrue (knows w (held.Module k)) → same_module m k ≡ false
  pub map : map_id_in v.places m ≡ id
  pub parent : parent_in v.places m ≡ up
  -- its scope is the empty one, which shows no push with a table that has no flag under it
  pub scope : scope_of v m ≡ no_scope
  pub shown : (g : Globs) → Shows no_scope g m [] → Shows (scope_of v m) g m []

-- The crate k was added, and the root of its map.
pub record IsAddedCrate (w v : World) (k : Crate) : Type 0 where
  pub known : IsTrue (knows v (held.Crate k))
  pub fresh : knows w (held.Crate k) ≡ false
  pub is_root : root_of v k ≡ Some (next_module w)
  pub root : IsAddedModule w v (record { krate = k; block = None }) None (next_module w)

-- The block b was added in the module m, and the root of its map, which is one of the crate of m.
pub record IsAddedBlock (w v : World) (m : ModuleId) (b : BlockId) : Type 0 where
  pub known : IsTrue (nat_lt b.0 (length v.block_maps))
  pub fresh : nat_lt b.0 (length w.block_maps) ≡ false
  pub container : container_in (containers_of v.block_maps) (Some b) ≡ Some m
  pub is_root : block_root_of v b ≡ Some (next_module w)
  pub root : IsAddedModule w v (record { krate = crate_in w m; block = Some b }) None (next_module w)

-- v is w with s as the scope of module m: what was known is known, and each other scope is as it was.
pub record IsScoped (w v : World) (m : ModuleId) (s : Scope) : Type 0 where
  pub id : (h : HeldId) → knows v h ≡ knows w h
  pub own : scope_of v m ≡ s
  pub others : (k : ModuleId) → same_module m k ≡ false → scope_of v k ≡ scope_of w k
