use Rattle.std.proofs.Common.{rules}
use Rattle.dm_maps.proofs.AddedMaps.{added-block}
use Rattle.dm_maps.proofs.builder.WorldBuilder.add_block.Goals as goal

pub returns-clause-added : goal.returns-clause-added
returns-clause-added c = added-block c.args.self.now c.push_block.new.self c.args.containing c.args.block c.next_block-b.result c.lawful.ensures.0 (search rules) c.in_ok-push_block.ensures.ok c.next_block-b.ensures
