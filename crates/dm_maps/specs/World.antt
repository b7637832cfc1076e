-- Worlds, as contracts see them.
use Rattle.std.specs.Prelude.{List, Option, Some, None, slice_get}
use Rattle.std.specs.Option.{option_map, option_map_or, option_and_then}
use Rattle.dm_base.specs.declared.ids.ModuleId.{ModuleId}
use Rattle.dm_base.specs.declared.ids.Crate.{Crate}
use Rattle.dm_base.specs.declared.ids.EnumId.{EnumId}
use Rattle.dm_base.specs.declared.ids.EnumVariantId.{EnumVariantId}
use Rattle.dm_base.specs.declared.ids.MapId.{MapId}
use Rattle.dm_base.specs.declared.item_ids.ItemKind.{ItemKind}
use Rattle.dm_base.specs.declared.fields_shape.FieldsShape.{FieldsShape}
use Rattle.dm_base.specs.declared.macros.MacroLoc.{MacroLoc}
use Rattle.dm_base.specs.Names.{Name}
use Rattle.dm_scope.specs.Scope.{Scope, no_scope}
use Rattle.dm_maps.specs.declared.place.Place.{Place}
use Rattle.dm_maps.specs.declared.rules.Rules.{Rules}
use Rattle.dm_def_map.specs.ItemTables.{ItemTables}
use Rattle.dm_def_map.specs.Maps.{Map, Module, LocalMap, nth_module}
use Rattle.dm_maps.specs.Maps.{Maps, map_at, maps_with_scope}

-- The tables of a world. A number of a list is an id: the third of `uses` is the use of number 2.
pub record World : Type 0 where
  -- the map of each crate, and of each block
  pub crate_maps : List Map
  pub block_maps : List Map
  -- for each module its map, its place among the map's modules, and its parent there
  pub places : List Place
  -- the extern prelude of each crate
  pub local_maps : List LocalMap
  -- the module of each use
  pub uses : List ModuleId
  -- the kind and module of each item
  pub items : List (ItemKind × ModuleId)
  -- the variants of each enum, by name; and the enum of each variant
  pub enums : List (EnumId × List (Name × (EnumVariantId × FieldsShape)))
  pub variants : List EnumId
  -- the module of each macro, and what it is
  pub macros : List (ModuleId × MacroLoc)
  -- the tables that belong to no map and no module
  pub item_tables : ItemTables
  -- the version of the rules by which it answers
  pub rules : Rules

-- the maps of a world, and the world with others in their place
abbrev pub maps_of : World → Maps
maps_of w = record { crates = w.crate_maps; blocks = w.block_maps }

abbrev pub with_maps : World → Maps → World
with_maps w ms = record w { crate_maps = ms.crates; block_maps = ms.blocks }

-- the map of that id, by its number
abbrev pub numbered_map : World → MapId → Option Map
numbered_map w id = map_at (maps_of w) id

-- where a module stands
abbrev pub place_of : World → ModuleId → Option Place
place_of w m = slice_get w.places m.0

-- the map that a module lies in
abbrev pub map_of : World → ModuleId → Option Map
map_of w m = option_and_then (λ p. numbered_map w p.map) (place_of w m)

-- what stands at a place
abbrev pub placed_module : World → Place → Option Module
placed_module w p = option_and_then (λ map. nth_module map.modules p.index) (numbered_map w p.map)

-- a module, by its number
abbrev pub module_of : World → ModuleId → Option Module
module_of w m = option_and_then (placed_module w) (place_of w m)

-- its scope; where there is no such module, one that binds nothing
abbrev pub scope_of : World → ModuleId → Scope
scope_of w m = option_map_or (λ d. d.scope) (module_of w m) no_scope

-- the map of a crate
abbrev pub crate_map : World → Crate → Option Map
crate_map w k = slice_get w.crate_maps k.0

-- the world with s as the scope at a place
abbrev pub with_scope_in : World → Option Place → Scope → World
with_scope_in w None s = w
with_scope_in w (Some p) s = with_maps w (maps_with_scope (maps_of w) p.map p.index s)

-- the world with s as the scope of module m
abbrev pub with_scope : World → ModuleId → Scope → World
with_scope w m s = with_scope_in w (place_of w m) s

-- the scope of a module, where there is such a module
abbrev pub scope_if_known : World → ModuleId → Option Scope
scope_if_known w m = option_map (λ d. d.scope) (module_of w m)
