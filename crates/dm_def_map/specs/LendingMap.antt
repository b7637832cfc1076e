-- A mutable borrow of a module's scope, from a def map.
use Rattle.std.specs.Prelude.{ℕ, Option}
use Rattle.std.specs.Borrow.{LendsIf, MutBor, Fml}
use Rattle.dm_scope.specs.Scope.{Scope}
use Rattle.dm_scope.specs.contracts.item_scope.ItemScope.{the_row as scope_row}
use Rattle.dm_def_map.specs.Maps.{Map, map_with_scope}
use Rattle.dm_def_map.specs.contracts.def_map.DefMap.{the_row}

-- the map ends with the last value behind r as the scope of its module at index i
abbrev pub LendsMapScope : MutBor Map → ℕ → Option (MutBor Scope) → Fml
LendsMapScope m i r = LendsIf the_row scope_row m r (map_with_scope m.now i) m.now
