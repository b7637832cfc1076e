-- A mutable borrow of the scope of a module, from the modules of a def map.
use Rattle.std.specs.Prelude.{ℕ, Option}
use Rattle.std.specs.Borrow.{LendsIf, MutBor, Fml}
use Rattle.dm_scope.specs.Scope.{Scope}
use Rattle.dm_scope.specs.contracts.item_scope.ItemScope.{the_row as scope_row}
use Rattle.dm_def_map.specs.Maps.{Modules, with_scope_at}
use Rattle.dm_def_map.specs.contracts.modules.modules_map.ModulesMap.{the_row}

-- the modules end with the last value behind r as the scope of the one at index i
abbrev pub LendsNthScope : MutBor Modules → ℕ → Option (MutBor Scope) → Fml
LendsNthScope es i r = LendsIf the_row scope_row es r (with_scope_at es.now i) es.now
