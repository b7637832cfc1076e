use Rattle.dm_base.specs.declared.ids.ModuleId.{ModuleId}
use Rattle.dm_scope.specs.Shows.{Shows}
use Rattle.dm_maps.specs.World.{scope_of}
use Rattle.defmap_callers.specs.Building.{pushes_to}
use Rattle.defmap_callers.proofs.building.declared.Given as goal

-- each module shows the declarations made so far that go to it
abbrev pub invariant-loop-m : goal.invariant-loop-m
invariant-loop-m l = (k : ModuleId) → Shows (scope_of l.world k) l.globs k (pushes_to k l.yielded)
