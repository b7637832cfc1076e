use Rattle.std.proofs.Common.{drop, Option}
use Rattle.dm_maps.specs.declared.check.fault.WorldFault.{WorldFault}
use Rattle.dm_maps.specs.First.{IsAnswer, each_from, module_holder}
use Rattle.dm_maps.proofs.check.first_fault.of_modules.Given as goal

-- what holds of the rest's answer holds of the whole list's
abbrev pub invariant-loop-i : goal.invariant-loop-i
invariant-loop-i l = (r : Option WorldFault) → IsAnswer l.world (each_from (module_holder l.world) l.i (drop l.i l.places)) r → IsAnswer l.world (each_from (module_holder l.world) 0 l.fn.places) r
