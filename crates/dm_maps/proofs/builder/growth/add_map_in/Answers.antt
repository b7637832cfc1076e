use Rattle.std.proofs.Common.{Some}
use Rattle.dm_maps.proofs.Pops.{without-last}
use Rattle.dm_maps.proofs.builder.growth.add_map_in.Goals as goal

pub returns-in-Err-clause-old_ladders : goal.returns-in-Err-clause-old_ladders
returns-in-Err-clause-old_ladders c = without-last c.args.ladders.now c.push.new.self c.pop.new.self (Some c.args.container) c.in_ok-push.ensures.ok c.pop.ensures
