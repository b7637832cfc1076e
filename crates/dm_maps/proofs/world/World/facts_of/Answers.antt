use Rattle.dm_maps.proofs.MapFacts.{IsMapOf-checked}
use Rattle.dm_maps.proofs.world.World.facts_of.Goals as goal

pub returns : goal.returns
returns c = IsMapOf-checked c.args.self.now c.tables-tables.ensures.world c.args.map.now c.requires
