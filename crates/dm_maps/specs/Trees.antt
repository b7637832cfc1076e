-- The tree of a world's modules, and the invariants of every world.
use Rattle.std.specs.Prelude.{◌≡◌, ◌<◌, ◌≤◌, ℕ, List, Option, Some, None, length, map, slice_get, nat_lt}
use Rattle.std.specs.Option.{option_map_or, option_and_then}
use Rattle.dm_base.specs.declared.ids.ModuleId.{ModuleId}
use Rattle.dm_base.specs.declared.ids.BlockId.{BlockId}
use Rattle.dm_base.specs.declared.ids.MapId.{MapId}
use Rattle.dm_base.specs.Tree.{Tree, IsTree}
use Rattle.dm_maps.specs.declared.place.Place.{Place}
use Rattle.dm_def_map.specs.Maps.{Map}
use Rattle.dm_maps.specs.World.{World}

-- what is said of a module that is not the world's
abbrev pub no_map : MapId
no_map = record { krate = record { 0 = 0 }; block = None }

-- the module that contains a block, where the list has it at the block's number
abbrev pub container_in : List (Option ModuleId) → Option BlockId → Option ModuleId
container_in cs None = None
container_in cs (Some b) = option_and_then (λ c. c) (slice_get cs b.0)

-- the map that a module lies in, and its parent there
abbrev pub map_id_in : List Place → ModuleId → MapId
map_id_in ps m = option_map_or (λ p. p.map) (slice_get ps m.0) no_map

abbrev pub parent_in : List Place → ModuleId → Option ModuleId
parent_in ps m = option_and_then (λ p. p.parent) (slice_get ps m.0)

-- the tree of modules at these places, where block b lies in the module at b of the second list
abbrev pub tree_by : List Place → List (Option ModuleId) → Tree
tree_by ps cs = record {
  has = λ m. nat_lt m.0 (length ps);
  map_of = map_id_in ps;
  parent = parent_in ps;
  inside = λ b. container_in cs (Some b);
}

-- the module that contains the block of each map
abbrev pub containers_of : List Map → List (Option ModuleId)
containers_of ms = map (λ m. m.parent) ms

-- the tree of a world's modules
unfoldable pub tree_of : World → Tree
tree_of w = tree_by w.places (containers_of w.block_maps)

-- a map without what scopes hold: its id, its root, and its modules with their parents
pub record Outline : Type 0 where
  pub id : MapId
  pub root : ModuleId
  pub modules : List (ModuleId × Option ModuleId)

abbrev pub outline : Map → Outline
outline m = record { id = m.id; root = m.root; modules = map (λ e. (e.0, e.1.parent)) m.modules }

abbrev pub outlines : List Map → List Outline
outlines ms = map outline ms

abbrev pub numbered_outline : List Outline → List Outline → MapId → Option Outline
numbered_outline cs bs id = elim id.block [ None ↦ slice_get cs id.krate.0 | Some b ↦ slice_get bs b.0 ]

-- module m stands at the place p: the map of that id has it there, with that parent
pub record Stands (cs bs : List Outline) (m : ModuleId) (p : Place) : Type 0 where
  pub there : Outline
  pub is_map : numbered_outline cs bs p.map ≡ Some there
  pub of_id : there.id ≡ p.map
  pub is_module : slice_get there.modules p.index ≡ Some (m, p.parent)

-- the block b lies in a module of smaller number than i, in the crate of the place p
pub record IsWithin (ps : List Place) (inside : List (Option ModuleId)) (i : ℕ) (p : Place) (b : BlockId) : Type 0 where
  pub container : ModuleId
  pub is : container_in inside (Some b) ≡ Some container
  pub smaller : container.0 < i
  pub same_crate : (map_id_in ps container).krate ≡ p.map.krate

-- What module i may have as its place: a parent of smaller number in the same map, and a block in such a module.
pub record IsPlaced (ps : List Place) (inside : List (Option ModuleId)) (i : ℕ) (p : Place) : Type 0 where
  pub parent : (q : ModuleId) → p.parent ≡ Some q → (q.0 < i) × (map_id_in ps q ≡ p.map)
  pub block : (b : BlockId) → p.map.block ≡ Some b → IsWithin ps inside i p b

-- a map's first module is its root, no other lacks a parent, each stands where its place says, and numbers go up
pub record IsMap (ps : List Place) (o : Outline) : Type 0 where
  pub root : slice_get o.modules 0 ≡ Some (o.root, None)
  pub one_root : (i : ℕ) (m : ModuleId) → slice_get o.modules i ≡ Some (m, None) → i ≡ 0
  pub listed : (i : ℕ) (m : ModuleId) (q : Option ModuleId) → slice_get o.modules i ≡ Some (m, q) → slice_get ps m.0 ≡ Some (record { map = o.id; index = i; parent = q })
  pub ascending : (i j : ℕ) (a b : ModuleId × Option ModuleId) → i < j → slice_get o.modules i ≡ Some a → slice_get o.modules j ≡ Some b → a.0.0 < b.0.0

abbrev pub is_crate_id : ℕ → MapId → Type 0
is_crate_id k id = id ≡ record { krate = record { 0 = k }; block = None }

abbrev pub is_block_id : ℕ → MapId → Type 0
is_block_id b id = id.block ≡ Some (record { 0 = b })

-- each map of a list has an id of its number
abbrev pub AreMaps : (ℕ → MapId → Type 0) → List Place → List Outline → Type 0
AreMaps own ps os = (k : ℕ) (o : Outline) → slice_get os k ≡ Some o → own k o.id × IsMap ps o

-- What holds of every world, whatever its scopes bind: its modules make a tree, each stands at its place in a map of
-- one of the crates, the maps have no others, each crate has an extern prelude, there are no more maps than modules,
-- and each module has a number.
pub record IsWorldOf (ps : List Place) (cs bs : List Outline) (inside : List (Option ModuleId)) (locals : ℕ) : Type 0 where
  pub tree : IsTree (tree_by ps inside)
  pub placed : (m : ModuleId) (p : Place) → slice_get ps m.0 ≡ Some p → IsPlaced ps inside m.0 p
  pub stands : (m : ModuleId) (p : Place) → slice_get ps m.0 ≡ Some p → Stands cs bs m p
  pub crates : AreMaps is_crate_id ps cs
  pub blocks : AreMaps is_block_id ps bs
  pub in_crates : (m : ModuleId) (p : Place) → slice_get ps m.0 ≡ Some p → p.map.krate.0 < length cs
  pub externs : locals ≡ length cs
  pub crate_count : length cs ≤ length ps
  pub block_count : length bs ≤ length ps
  pub numbers : length ps ≤ 4294967295

abbrev pub IsWorld : World → Type 0
IsWorld w = IsWorldOf w.places (outlines w.crate_maps) (outlines w.block_maps) (containers_of w.block_maps) (length w.local_maps)
