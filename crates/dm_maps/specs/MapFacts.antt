-- Invariants of each map of a world, and of the modules that it lists.
use Rattle.std.specs.Prelude.{◌≡◌, ◌↔◌, ◌<◌, ℕ, All, IsSome, IsTrue, None, Some, slice_get}
use Rattle.std.specs.Option.{ForSome, option_and_then, option_map}
use Rattle.dm_base.specs.declared.ids.BlockId.{BlockId}
use Rattle.dm_base.specs.declared.ids.ModuleId.{ModuleId}
use Rattle.dm_base.specs.Names.{Name, find_name}
use Rattle.dm_base.specs.Tree.{containing}
use Rattle.dm_maps.specs.declared.check.held.HeldId.TheVariants as held
use Rattle.dm_def_map.specs.Maps.{Map, Module, Modules, module_at}
use Rattle.dm_def_map.specs.Queries.{containing_in}
use Rattle.dm_maps.specs.Family.{common}
use Rattle.dm_maps.specs.Known.{knows}
use Rattle.dm_maps.specs.Trees.{tree_of}
use Rattle.dm_maps.specs.World.{World, crate_map, map_of, module_of}

-- A child c of the module m: it lies in the same map, m is its parent there, and its number is greater.
pub record IsChild (map : Map) (m c : ModuleId) : Type 0 where
  pub lies : IsSome (module_at map.modules c)
  pub parent : option_and_then (λ d. d.parent) (module_at map.modules c) ≡ Some m
  pub greater : m.0 < c.0

-- the block of a map that m lies in is contained in a module of smaller number than m, which lies in a map of the same
-- crate
pub record HasContainer (w : World) (m : ModuleId) (map : Map) : Type 0 where
  pub container : ModuleId
  pub is : map.parent ≡ Some container
  pub smaller : container.0 < m.0
  pub its_map : Map
  pub lies : map_of w container ≡ Some its_map
  pub same_crate : its_map.id.krate ≡ map.id.krate

-- a map lists its modules in order of number
abbrev pub IsAscending : Modules → Type 0
IsAscending es = (i j : ℕ) (a b : ModuleId × Module) → i < j → slice_get es i ≡ Some a → slice_get es j ≡ Some b → a.0.0 < b.0.0

-- What holds of a map of the world.
pub record IsMapOf (w : World) (map : Map) : Type 0 where
  -- its modules are the world's, and it is their map
  pub known : (m : ModuleId) → IsSome (module_at map.modules m) → IsTrue (knows w (held.Module m))
  pub its_map : (m : ModuleId) → IsSome (module_at map.modules m) → map_of w m ≡ Some map
  -- which finds each by its number, as the map does, and the map lists them in order of number
  pub found : (m : ModuleId) → IsSome (module_at map.modules m) → module_of w m ≡ module_at map.modules m
  pub ascending : IsAscending map.modules
  -- its root is one of them, the one without a parent
  pub root : IsSome (module_at map.modules map.root)
  pub one_root : (m : ModuleId) (d : Module) → module_at map.modules m ≡ Some d → (d.parent ≡ None) ↔ (m ≡ map.root)
  -- a parent has a smaller number, and lies in the map
  pub parent : (m q : ModuleId) (d : Module) → module_at map.modules m ≡ Some d → d.parent ≡ Some q → (q.0 < m.0) × IsSome (module_at map.modules q)
  -- what a module lists are its children
  pub children : (m : ModuleId) (d : Module) → module_at map.modules m ≡ Some d → All (λ x. IsChild map m x.1) d.children
  pub child : (m : ModuleId) (d : Module) → module_at map.modules m ≡ Some d → (n : Name) → ForSome (find_name n d.children) (IsChild map m)
  -- the module that contains a module of the map is that of the tree
  pub contains : (m : ModuleId) → IsSome (module_at map.modules m) → containing_in map m ≡ containing (tree_of w) m
  -- in a block's map: a module of smaller number and of the same crate contains the block
  pub block : (m : ModuleId) → IsSome (module_at map.modules m) → (b : BlockId) → map.id.block ≡ Some b → HasContainer w m map
  -- no module contains a crate, and all maps of a crate share its edition and data
  pub outermost : map.id.block ≡ None → map.parent ≡ None
  pub shared : option_map common (crate_map w map.id.krate) ≡ Some (common map)
