use Rattle.dm_maps.specs.Pushes.{push_holds}
use Rattle.dm_maps.proofs.FirstLemmas.{known-by}
use Rattle.dm_maps.proofs.world.World.knows_res.Goals as goal

pub returns : goal.returns
returns c = known-by c.args.self.now c.tables.result.now (push_holds c.args.m c.args.res.now c.args.import) c.note_push-least.result c.is_none.result c.tables.ensures.value c.note_push-least.ensures c.is_none.ensures
