-- Trees of modules: the chain of a module, lifting out of blocks, which modules see a visibility, and the nearest
-- modules that are no block's root.
use Rattle.std.specs.Prelude.{◌≡◌, ◌<◌, IsTrue, ℕ, zero, suc, ◌&&◌, ◌||◌, not, nat_eq, List, [], ◌∷◌, Option, Some, None, Bool, true, false, is_none, is_some, unwrap_or, find, filter, slice_get, if◌then◌else◌}
use Rattle.std.specs.List.{list_any}
use Rattle.std.specs.Option.{option_and_then, option_map_or, option_or}
use Rattle.dm_base.specs.declared.ids.ModuleId.{ModuleId}
use Rattle.dm_base.specs.declared.ids.BlockId.{BlockId}
use Rattle.dm_base.specs.declared.ids.Crate.{Crate}
use Rattle.dm_base.specs.declared.ids.MapId.{MapId}
use Rattle.dm_base.specs.declared.visibility.Visibility.{Visibility}
use Rattle.dm_base.specs.declared.visibility.Visibility.TheVariants.{Module, PubCrate, Public}

-- What the definitions below read of a tree; no name is in it.
pub record Tree : Type 0 where
  -- its modules
  pub has : ModuleId → Bool
  -- the def map that a module lies in: that of a crate, or of a block expression of the crate
  pub map_of : ModuleId → MapId
  -- a module's parent in that map; a map's root has none
  pub parent : ModuleId → Option ModuleId
  -- the module that contains a block
  pub inside : BlockId → Option ModuleId

abbrev pub same_module : ModuleId → ModuleId → Bool
same_module a b = nat_eq a.0 b.0

abbrev pub same_crate : Crate → Crate → Bool
same_crate a b = nat_eq a.0 b.0

abbrev pub same_block : Option BlockId → Option BlockId → Bool
same_block None None = true
same_block None (Some b) = false
same_block (Some a) None = false
same_block (Some a) (Some b) = nat_eq a.0 b.0

abbrev pub same_map : MapId → MapId → Bool
same_map a b = same_crate a.krate b.krate && same_block a.block b.block

abbrev pub crate_of : Tree → ModuleId → Crate
crate_of t m = (t.map_of m).krate

abbrev pub block_of : Tree → ModuleId → Option BlockId
block_of t m = (t.map_of m).block

abbrev pub in_block_map : Tree → ModuleId → Bool
in_block_map t m = is_some (block_of t m)

-- the module that contains m's block
abbrev pub outside : Tree → ModuleId → Option ModuleId
outside t m = option_and_then t.inside (block_of t m)

-- a block map's module without a parent
abbrev pub is_block_root : Tree → ModuleId → Bool
is_block_root t m = in_block_map t m && is_none (t.parent m)

-- the module that contains the block whose root m is
abbrev pub outside_root : Tree → ModuleId → Option ModuleId
outside_root t m = if is_block_root t m then outside t m else None

-- a module's parent, or for a block's root the module that contains the block
abbrev pub containing : Tree → ModuleId → Option ModuleId
containing t m = option_or (t.parent m) (outside t m)

-- the chain of a module, as far as n containing modules
abbrev pub chain_within : ℕ → Tree → ModuleId → List ModuleId
chain_within zero t m = m ∷ []
chain_within (suc n) t m = m ∷ option_map_or (chain_within n t) (containing t m) []

-- m, then the chain of its containing module, whose number is smaller
abbrev pub chain : Tree → ModuleId → List ModuleId
chain t m = chain_within m.0 t m

-- a module, then the list of the next one, if there is a next one
abbrev pub begun_by : ModuleId → (ModuleId → List ModuleId) → Option ModuleId → List ModuleId
begun_by m list next = m ∷ option_map_or list next []

abbrev pub is_among : ModuleId → List ModuleId → Bool
is_among a ms = list_any (same_module a) ms

-- whether a contains m, and is not m itself
abbrev pub is_ancestor : Tree → ModuleId → ModuleId → Bool
is_ancestor t a m = option_map_or (λ c. is_among a (chain t c)) (containing t m) false

-- the modules that m is lifted through, as far as n blocks
abbrev pub outward_within : ℕ → Tree → ModuleId → List ModuleId
outward_within zero t m = m ∷ []
outward_within (suc n) t m = m ∷ option_map_or (outward_within n t) (outside t m) []

-- m, the module that contains m's block, the module that contains that module's block, and so on
abbrev pub outward : Tree → ModuleId → List ModuleId
outward t m = outward_within m.0 t m

-- whether m is one of the map's modules
abbrev pub lies_in : Tree → MapId → ModuleId → Bool
lies_in t map m = same_map (t.map_of m) map

-- whether o lies in no block or in the map
abbrev pub is_lifted : Tree → MapId → ModuleId → Bool
is_lifted t map o = is_none (block_of t o) || lies_in t map o

-- the first of them that does
abbrev pub lift_to : Tree → ModuleId → MapId → ModuleId
lift_to t m map = unwrap_or (find (is_lifted t map) (outward t m)) m

-- the same in f's map
abbrev pub lift : Tree → ModuleId → ModuleId → ModuleId
lift t m f = lift_to t m (t.map_of f)

-- Whether f is one of the modules that see v: all of them for a public item, those of the crate for a crate's; for a
-- module's item the module itself, and each module of its crate in whose chain it stands when lifted.
abbrev pub sees : Tree → Visibility → ModuleId → Bool
sees t (Module m e) f = same_module f m || (same_crate (crate_of t f) (crate_of t m) && is_among (lift t m f) (chain t f))
sees t (PubCrate k) f = same_crate (crate_of t f) k
sees t Public f = true

-- the chain without the roots of block maps
abbrev pub outer : Tree → ModuleId → List ModuleId
outer t m = filter (λ c. not (is_block_root t c)) (chain t m)

-- the nearest module that is no block's root
abbrev pub home : Tree → ModuleId → ModuleId
home t m = unwrap_or (slice_get (outer t m) 0) m

-- the beginning of a list of modules, up to h
abbrev pub up_to : ModuleId → List ModuleId → List ModuleId
up_to h [] = []
up_to h (m ∷ ms) = m ∷ (if same_module m h then [] else up_to h ms)

-- m and the modules that contain it, up to the nearest that is no block's root
abbrev pub homeward : Tree → ModuleId → List ModuleId
homeward t m = up_to (home t m) (chain t m)

abbrev pub IsKnown : Tree → ModuleId → Type 0
IsKnown t m = IsTrue (t.has m)

-- What holds of every lawful tree.
pub record IsTree (t : Tree) : Type 0 where
  -- a parent lies in the same map
  pub parent_map : (m p : ModuleId) → IsKnown t m → t.parent m ≡ Some p → t.map_of p ≡ t.map_of m
  -- a containing module is one of the tree's, has a smaller number, and lies in the same crate
  pub containing_known : (m c : ModuleId) → IsKnown t m → containing t m ≡ Some c → IsKnown t c
  pub containing_smaller : (m c : ModuleId) → IsKnown t m → containing t m ≡ Some c → c.0 < m.0
  pub containing_crate : (m c : ModuleId) → IsKnown t m → containing t m ≡ Some c → crate_of t c ≡ crate_of t m
  -- so has the module that contains its block
  pub outside_known : (m o : ModuleId) → IsKnown t m → outside t m ≡ Some o → IsKnown t o
  pub outside_smaller : (m o : ModuleId) → IsKnown t m → outside t m ≡ Some o → o.0 < m.0
  pub outside_crate : (m o : ModuleId) → IsKnown t m → outside t m ≡ Some o → crate_of t o ≡ crate_of t m
  -- a module of a block has one, and the block's module is the same for all of them
  pub outside_there : (m : ModuleId) → IsKnown t m → is_some (outside t m) ≡ in_block_map t m
