-- A builder lends the scope of a module.
use Rattle.std.specs.Prelude.{Option}
use Rattle.std.specs.Borrow.{LendsIf, MutBor, Fml}
use Rattle.dm_base.specs.declared.ids.ModuleId.{ModuleId}
use Rattle.dm_scope.specs.Scope.{Scope}
use Rattle.dm_scope.specs.contracts.item_scope.ItemScope.{the_row as scope_row}
use Rattle.dm_maps.specs.World.{World, with_scope}
use Rattle.dm_maps.specs.contracts.builder.WorldBuilder.{the_row}

-- the builder ends with the last value behind r as the scope of m, if m is one of its modules
abbrev pub LendsScope : MutBor World → ModuleId → Option (MutBor Scope) → Fml
LendsScope w m r = LendsIf the_row scope_row w r (with_scope w.now m) w.now
