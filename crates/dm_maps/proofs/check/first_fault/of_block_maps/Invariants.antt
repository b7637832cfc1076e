use Rattle.std.proofs.Common.{drop, map, Option}
use Rattle.dm_maps.specs.declared.check.fault.WorldFault.{WorldFault}
use Rattle.dm_maps.specs.First.{IsAnswer, block_holder}
use Rattle.dm_maps.proofs.check.first_fault.of_block_maps.Given as goal

-- what holds of the rest's answer holds of the whole list's
abbrev pub invariant-loop-map : goal.invariant-loop-map
invariant-loop-map l = (r : Option WorldFault) → IsAnswer l.world (map block_holder (drop l.map-index l.maps)) r → IsAnswer l.world (map block_holder l.fn.maps) r
