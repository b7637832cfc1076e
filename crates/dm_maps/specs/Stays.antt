-- What a push leaves of a world: which ids are known, and the name-independent part.
use Rattle.std.specs.Prelude.{◌≡◌, List, length}
use Rattle.std.specs.Option.{option_map}
use Rattle.dm_base.specs.declared.ids.MapId.{MapId}
use Rattle.dm_maps.specs.declared.check.held.HeldId.{HeldId}
use Rattle.dm_maps.specs.BuildMaps.{lacks_map}
use Rattle.dm_maps.specs.Known.{knows, KnowsAll}
use Rattle.dm_maps.specs.Readings.{setting_of}
use Rattle.dm_maps.specs.Trees.{outline}
use Rattle.dm_maps.specs.World.{World, numbered_map}

-- What w knows, v knows, and their name-independent parts are the same.
pub record StaysKnown (w v : World) : Type 0 where
  -- each id is known if it was, and so is what holds ids: a path, a local map, a set of items, a push
  pub id : (h : HeldId) → knows v h ≡ knows w h
  pub all : (hs : List HeldId) → KnowsAll w hs → KnowsAll v hs
  -- the tree of modules, roots, editions, prelude modules, styles and the version of the rules are the same
  pub setting : setting_of v ≡ setting_of w
  -- each map is there, with its id, its root and its modules
  pub maps : (id : MapId) → option_map outline (numbered_map v id) ≡ option_map outline (numbered_map w id)
  pub lacks : (id : MapId) → lacks_map v id ≡ lacks_map w id
  -- there are as many blocks, and each crate has its extern prelude
  pub blocks : length v.block_maps ≡ length w.block_maps
  pub locals : v.local_maps ≡ w.local_maps
