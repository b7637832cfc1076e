-- The maps of a world lend one of them, and the scope of a module in it.
use Rattle.std.specs.Prelude.{ℕ, Option}
use Rattle.std.specs.Borrow.{LendsIf, MutBor, Fml}
use Rattle.dm_base.specs.declared.ids.MapId.{MapId}
use Rattle.dm_scope.specs.Scope.{Scope}
use Rattle.dm_scope.specs.contracts.item_scope.ItemScope.{the_row as scope_row}
use Rattle.dm_def_map.specs.Maps.{Map}
use Rattle.dm_def_map.specs.contracts.def_map.DefMap.{the_row as map_row}
use Rattle.dm_maps.specs.Maps.{Maps, put_map, maps_with_scope}
use Rattle.dm_maps.specs.contracts.maps.Maps.{the_row}

-- the maps end with the last value behind r in place of the map of that id
abbrev pub LendsMap : MutBor Maps → MapId → Option (MutBor Map) → Fml
LendsMap ms id r = LendsIf the_row map_row ms r (put_map ms.now id) ms.now

-- and as the scope of the module at place i of that map
abbrev pub LendsScopeIn : MutBor Maps → MapId → ℕ → Option (MutBor Scope) → Fml
LendsScopeIn ms id i r = LendsIf the_row scope_row ms r (maps_with_scope ms.now id i) ms.now
