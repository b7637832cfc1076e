use Rattle.std.proofs.Common.{◌≡◌, length}
use Rattle.std.specs.List.{All}
use Rattle.dm_base.specs.declared.ids.ModuleId.{ModuleId}
use Rattle.dm_scope.specs.Scope.{no_scope}
use Rattle.dm_maps.specs.World.{scope_of}
use Rattle.defmap_callers.specs.Building.{IsBelow}
use Rattle.defmap_callers.proofs.building.crate_of_modules.Given as goal

abbrev pub invariant-loop-name : goal.invariant-loop-name
invariant-loop-name l = record {
  count : length l.modules.items ≡ length l.yielded;
  below : All (IsBelow l.builder (record { 0 = 0 })) l.modules.items;
  empty : (m : ModuleId) → scope_of l.builder m ≡ no_scope;
}
