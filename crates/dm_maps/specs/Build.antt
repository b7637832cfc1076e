-- What builder calls change.
use Rattle.std.specs.Prelude.{ℕ, [], ◌∷◌, ◌++◌, Some, None, length}
use Rattle.std.specs.Option.{option_map_or}
use Rattle.dm_base.specs.declared.ids.ModuleId.{ModuleId}
use Rattle.dm_base.specs.declared.ids.Crate.{Crate}
use Rattle.dm_base.specs.declared.ids.MapId.{MapId}
use Rattle.dm_base.specs.declared.edition.Edition.{Edition}
use Rattle.dm_base.specs.declared.source.EditionedFileId.{EditionedFileId}
use Rattle.dm_base.specs.declared.visibility.Visibility.{Visibility}
use Rattle.dm_base.specs.declared.visibility.Visibility.TheVariants.{Public}
use Rattle.dm_base.specs.declared.item_ids.ItemKind.{ItemKind}
use Rattle.dm_base.specs.declared.item_ids.ItemKind.TheVariants as item
use Rattle.dm_base.specs.declared.item_ids.ModuleDefId.{ModuleDefId}
use Rattle.dm_base.specs.declared.item_ids.ModuleDefId.TheVariants as def
use Rattle.dm_base.specs.declared.item_ids.AdtId.TheVariants as adt
use Rattle.dm_base.specs.Names.{Name}
use Rattle.dm_maps.specs.declared.place.Place.{Place}
use Rattle.dm_maps.specs.declared.rules.Rules.{Rules}
use Rattle.dm_maps.specs.declared.rules.Rules.TheVariants.{V1}
use Rattle.dm_def_map.specs.declared.modules.module_origin.ModuleOrigin.{ModuleOrigin}
use Rattle.dm_def_map.specs.declared.modules.module_origin.ModuleOrigin.TheVariants.{CrateRoot}
use Rattle.dm_def_map.specs.Maps.{Map, Module, fresh_module, fresh_map}
use Rattle.dm_def_map.specs.ItemTables.{no_tables}
use Rattle.dm_maps.specs.Maps.{maps_with_child}
use Rattle.dm_maps.specs.World.{World, place_of, numbered_map, maps_of, with_maps}

-- a builder of nothing, by the first version of the rules
abbrev pub no_world : World
no_world = record {
  crate_maps = [];
  block_maps = [];
  places = [];
  local_maps = [];
  uses = [];
  items = [];
  enums = [];
  variants = [];
  macros = [];
  item_tables = no_tables;
  rules = V1;
}

-- the world by that version of the rules
abbrev pub with_rules : World → Rules → World
with_rules w r = record w { rules = r }

-- the number of the next module, and of the next crate
abbrev pub next_module : World → ModuleId
next_module w = record { 0 = length w.places }

abbrev pub next_crate : World → Crate
next_crate w = record { 0 = length w.crate_maps }

-- the map of a new crate: its root lies in that file, and everyone sees it
abbrev pub fresh_crate : Crate → Edition → EditionedFileId → ModuleId → Map
fresh_crate k e f m = fresh_map (record { krate = k; block = None }) e None m (fresh_module (CrateRoot f) Public None)

-- the world with a crate more: its map has the root alone, and its extern prelude no entry
abbrev pub with_crate : World → Edition → EditionedFileId → World
with_crate w e f = record w {
  crate_maps = w.crate_maps ++ fresh_crate (next_crate w) e f (next_module w) ∷ [];
  places = w.places ++ (record { map = record { krate = next_crate w; block = None }; index = 0; parent = None }) ∷ [];
  local_maps = w.local_maps ++ [] ∷ [];
}

-- the place of the next module in a map, below that parent
abbrev pub next_place : World → MapId → ModuleId → Place
next_place w id m = record { map = id; index = option_map_or (λ map. length map.modules) (numbered_map w id) 0; parent = Some m }

-- the world with a module more, a child of the module m at the place p
abbrev pub with_child_at_place : World → ModuleId → Place → Name → Module → World
with_child_at_place w m p n d = record (with_maps w (maps_with_child (maps_of w) p.map p.index n (next_module w) d)) {
  places = w.places ++ next_place w p.map m ∷ [];
}

-- the world with a module more, a child of m
abbrev pub with_child_of : World → ModuleId → Name → Module → World
with_child_of w m n d = option_map_or (λ p. with_child_at_place w m p n d) (place_of w m) w

-- the world with a module more, a child of m: it has no children yet, and its scope binds nothing
abbrev pub with_module : World → ModuleId → Name → ModuleOrigin → Visibility → World
with_module w m n o v = with_child_of w m n (fresh_module o v (Some m))

-- the world with an item more in a module
abbrev pub with_item : World → ItemKind → ModuleId → World
with_item w k m = record w { items = w.items ++ (k, m) ∷ [] }

-- the definition that an item of that kind and number is
abbrev pub item_def : ItemKind → ℕ → ModuleDefId
item_def item.Function n = def.FunctionId (record { 0 = n })
item_def item.Struct n = def.AdtId (adt.StructId (record { 0 = n }))
item_def item.Union n = def.AdtId (adt.UnionId (record { 0 = n }))
item_def item.Enum n = def.AdtId (adt.EnumId (record { 0 = n }))
item_def item.Const n = def.ConstId (record { 0 = n })
item_def item.Static n = def.StaticId (record { 0 = n })
item_def item.Trait n = def.TraitId (record { 0 = n })
item_def item.TypeAlias n = def.TypeAliasId (record { 0 = n })
