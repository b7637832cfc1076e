use Rattle.std.proofs.Common.{rules}
use Rattle.dm_maps.proofs.AddedMaps.{added-crate}
use Rattle.dm_maps.proofs.builder.WorldBuilder.add_crate.Goals as goal

pub returns-clause-added : goal.returns-clause-added
returns-clause-added c = added-crate c.args.self.now c.push_crate.new.self c.args.edition c.args.file _ c.in_ok-push_crate.ensures.ok (search rules)
