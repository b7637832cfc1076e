use Rattle.std.proofs.Common.{rules}
use Rattle.dm_maps.specs.First.{crate_holder}
use Rattle.dm_maps.proofs.FirstLemmas.{first-one}
use Rattle.dm_maps.proofs.check.first_fault.crate_map_fault.Goals as goal

pub returns : goal.returns
returns c = first-one c.args.world.now (crate_holder c.args.locals.now c.args.k c.args.map.now) c.lesser-least.result c.fault_of.result (search rules) (search rules)
