-- A mutable borrow of a module's scope.
use Rattle.std.specs.Borrow.{Lends, MutBor, Fml}
use Rattle.dm_scope.specs.Scope.{Scope}
use Rattle.dm_scope.specs.contracts.item_scope.ItemScope.{the_row as scope_row}
use Rattle.dm_def_map.specs.Maps.{Module}
use Rattle.dm_def_map.specs.contracts.modules.module_data.ModuleData.{the_row}

-- d ends with the last value behind r as its scope
abbrev pub LendsModuleScope : MutBor Module → MutBor Scope → Fml
LendsModuleScope d r = Lends the_row scope_row d r (λ s. record d.now { scope = s })
