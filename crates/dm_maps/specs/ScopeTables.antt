-- What import chains and dumps read of a world.
use Rattle.std.specs.Prelude.{Some, map, slice_get}
use Rattle.std.specs.List.{list_any}
use Rattle.std.specs.Option.{option_map_or}
use Rattle.dm_base.specs.Names.{same_name}
use Rattle.dm_scope.specs.Scope.{Scope, no_scope}
use Rattle.dm_scope.specs.Tables.{Tables}
use Rattle.dm_maps.specs.declared.place.Place.{Place}
use Rattle.dm_maps.specs.Readings.{styles_of}
use Rattle.dm_maps.specs.World.{World, placed_module}

-- the scope of the module at a place
abbrev pub scope_at_place : World → Place → Scope
scope_at_place w p = option_map_or (λ d. d.scope) (placed_module w p) no_scope

-- the module of each use, the scopes of all modules by number, the styles of each macro, and which names are raw
unfoldable pub scope_tables : World → Tables
scope_tables w = record {
  container = λ u. slice_get w.uses u.0;
  scopes = map (scope_at_place w) w.places;
  styles = λ m. Some (styles_of w m);
  prints_raw = λ n. list_any (same_name n) w.item_tables.raw_names;
}
