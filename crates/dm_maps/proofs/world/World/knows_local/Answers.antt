use Rattle.dm_maps.specs.Holding.{local_holds}
use Rattle.dm_maps.proofs.FirstLemmas.{known-by}
use Rattle.dm_maps.proofs.world.World.knows_local.Goals as goal

pub returns : goal.returns
returns c = known-by c.args.self.now c.tables.result.now (local_holds c.args.local.now) c.note_local_map-least.result c.is_none.result c.tables.ensures.value c.note_local_map-least.ensures c.is_none.ensures
