-- What a block changes, that is added to a builder.
use Rattle.std.specs.Prelude.{[], ◌∷◌, ◌++◌, Option, Some, None, length}
use Rattle.std.specs.Option.{option_map_or}
use Rattle.dm_base.specs.declared.ids.ModuleId.{ModuleId}
use Rattle.dm_base.specs.declared.ids.BlockId.{BlockId}
use Rattle.dm_base.specs.declared.ids.Crate.{Crate}
use Rattle.dm_base.specs.declared.source.AstId.{AstId}
use Rattle.dm_base.specs.declared.visibility.Visibility.TheVariants.{Module}
use Rattle.dm_base.specs.declared.visibility.VisibilityExplicitness.TheVariants.{Implicit}
use Rattle.dm_maps.specs.declared.build_fault.BuildFault.{BuildFault}
use Rattle.dm_def_map.specs.declared.modules.module_origin.ModuleOrigin.TheVariants.{BlockExpr}
use Rattle.dm_def_map.specs.Maps.{Map, fresh_module, fresh_map}
use Rattle.dm_maps.specs.World.{World, crate_map}
use Rattle.dm_maps.specs.Trees.{map_id_in}
use Rattle.dm_maps.specs.Build.{next_module}
use Rattle.dm_maps.specs.Faults.{first_fault, none_found, is_full, lacks_module}

-- the number of the next block
abbrev pub next_block : World → BlockId
next_block w = record { 0 = length w.block_maps }

-- the crate that a module lies in
abbrev pub crate_in : World → ModuleId → Crate
crate_in w m = (map_id_in w.places m).krate

-- the map of a block in module m, of the edition of the crate's map c, with which it shares the crate's data: its root
-- is what the block is, and is seen in m
abbrev pub fresh_block : Map → Crate → BlockId → ModuleId → AstId → ModuleId → Map
fresh_block c k b m a root = record (fresh_map (record { krate = k; block = Some b }) c.edition (Some m) root (fresh_module (BlockExpr b a) (Module m Implicit) None)) { shared = c.shared }

-- the world with a block more in module m, which lies in crate k, whose map is c: its map has the root alone
abbrev pub with_block_of : World → Crate → ModuleId → AstId → Map → World
with_block_of w k m a c = record w {
  block_maps = w.block_maps ++ fresh_block c k (next_block w) m a (next_module w) ∷ [];
  places = w.places ++ (record { map = record { krate = k; block = Some (next_block w) }; index = 0; parent = None }) ∷ [];
}

-- the world with a block more in module m
abbrev pub with_block : World → ModuleId → AstId → World
with_block w m a = option_map_or (with_block_of w (crate_in w m) m a) (crate_map w (crate_in w m)) w

-- of a new block: its root is a module, so there are never more blocks than modules
abbrev pub block_fault : World → ModuleId → Option BuildFault
block_fault w m = first_fault (record none_found { no_module = lacks_module w m; full = is_full w.places })
