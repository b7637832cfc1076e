use Rattle.dm_maps.specs.Holding.{def_holds}
use Rattle.dm_maps.proofs.FirstLemmas.{known-by}
use Rattle.dm_maps.proofs.world.World.knows_def.Goals as goal

pub returns : goal.returns
returns c = known-by c.args.self.now c.tables.result.now (def_holds c.args.def) c.def_fault-least.result c.is_none.result c.tables.ensures.value c.def_fault-least.ensures c.is_none.ensures
