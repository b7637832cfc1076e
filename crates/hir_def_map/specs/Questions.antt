-- Path resolutions that a world can answer: all ids in them are the world's.
use Rattle.std.specs.Prelude.{◌≡◌, Some, IsSome}
use Rattle.dm_base.specs.declared.ids.ModuleId.{ModuleId}
use Rattle.dm_base.specs.declared.mod_path.PathKind.{PathKind}
use Rattle.dm_base.specs.Tree.{IsKnown, crate_of}
use Rattle.dm_maps.specs.Holding.{local_holds, path_holds}
use Rattle.dm_def_map.specs.Maps.{Map, LocalMap, module_at}
use Rattle.dm_maps.specs.Known.{KnowsAll}
use Rattle.dm_maps.specs.Stays.{StaysKnown}
use Rattle.dm_maps.specs.Trees.{tree_of}
use Rattle.dm_maps.specs.World.{World, numbered_map}

-- A question that a world knows: the map is the world's of its id, the question is asked from a module of it, and local map and path
-- name only what the world has.
pub record IsKnownQuestion (w : World) (M : Map) (L : LocalMap) (m : ModuleId) (kind : PathKind) : Type 0 where
  pub map : numbered_map w M.id ≡ Some M
  pub origin : IsSome (module_at M.modules m)
  pub local_known : KnowsAll w (local_holds L)
  pub path_known : KnowsAll w (path_holds kind)

-- The same of a question to the preludes of a map, which is asked from a module of any map of the crate.
pub record IsKnownInCrate (w : World) (M : Map) (L : LocalMap) (m : ModuleId) (kind : PathKind) : Type 0 where
  pub map : numbered_map w M.id ≡ Some M
  pub origin : IsKnown (tree_of w) m
  pub of_crate : crate_of (tree_of w) m ≡ M.id.krate
  pub local_known : KnowsAll w (local_holds L)
  pub path_known : KnowsAll w (path_holds kind)

-- What a world knew as a question before a push it knows after it, of the map of the same id.
abbrev pub StaysAsked : {A : Type 0} → (World → Map → LocalMap → ModuleId → A → Type 0) → Type 0
StaysAsked {A} Known =
    (w v : World) → StaysKnown w v → (M N : Map) (L : LocalMap) (m : ModuleId) (a : A)
    → Known w M L m a → numbered_map v M.id ≡ Some N → Known v N L m a
