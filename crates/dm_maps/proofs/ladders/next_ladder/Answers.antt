use Rattle.std.proofs.Common.{length, refl}
use Rattle.dm_maps.proofs.FillLemmas.{alone-ladder}
use Rattle.dm_maps.proofs.ladders.next_ladder.Goals as goal

pub returns-in-None-clause-lawful : goal.returns-in-None-clause-lawful
returns-in-None-clause-lawful c = alone-ladder c.args.ladders.now (length c.args.ladders.now) refl
