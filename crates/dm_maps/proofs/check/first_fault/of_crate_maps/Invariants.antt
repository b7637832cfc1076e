use Rattle.std.proofs.Common.{drop, Option}
use Rattle.dm_maps.specs.declared.check.fault.WorldFault.{WorldFault}
use Rattle.dm_maps.specs.First.{IsAnswer, each_from, crate_holder}
use Rattle.dm_maps.proofs.check.first_fault.of_crate_maps.Given as goal

-- what holds of the rest's answer holds of the whole list's
abbrev pub invariant-loop-k : goal.invariant-loop-k
invariant-loop-k l = (r : Option WorldFault) → IsAnswer l.world (each_from (crate_holder l.locals) l.k (drop l.k l.maps)) r → IsAnswer l.world (each_from (crate_holder l.locals) 0 l.fn.maps) r
