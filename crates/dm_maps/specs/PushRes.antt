-- What a push into a world changes.
use Rattle.std.specs.Prelude.{List, Option}
use Rattle.dm_base.specs.declared.ids.ModuleId.{ModuleId}
use Rattle.dm_base.specs.declared.imports.ImportOrExternCrate.{ImportOrExternCrate}
use Rattle.dm_base.specs.declared.per_ns.PerNs.{PerNs}
use Rattle.dm_base.specs.Names.{Name}
use Rattle.dm_scope.specs.Flags.{Globs}
use Rattle.dm_scope.specs.Push.{scope_after}
use Rattle.dm_scope.specs.Shows.{ScopePush, Shows}
use Rattle.dm_maps.specs.World.{World, scope_of, with_scope}

-- the world after a push: the module's scope is as after the push, and all else stays
abbrev pub with_push : World → Globs → ModuleId → Name → PerNs → Option ImportOrExternCrate → World
with_push w g m n x i = with_scope w m (scope_after (scope_of w m) g m n x i)

-- a module's scope shows after a push what it showed before
abbrev pub StaysShown : World → Globs → World → Globs → ModuleId → Type 0
StaysShown w g v h k = (ps : List ScopePush) → Shows (scope_of w k) g k ps → Shows (scope_of v k) h k ps
