use Rattle.dm_maps.specs.Holding.{vis_holds}
use Rattle.dm_maps.proofs.FirstLemmas.{known-by}
use Rattle.dm_maps.proofs.world.World.knows_vis.Goals as goal

pub returns : goal.returns
returns c = known-by c.args.self.now c.tables.result.now (vis_holds c.args.vis) c.vis_fault-least.result c.is_none.result c.tables.ensures.value c.vis_fault-least.ensures c.is_none.ensures
