use Rattle.std.proofs.Common.{arith}
use Rattle.dm_maps.specs.Holding.{local_holds}
use Rattle.dm_maps.proofs.Least.{least-found}
use Rattle.dm_maps.proofs.Sets.{parts}
use Rattle.dm_maps.proofs.check.note_preludes.note_externs.Goals as goal

pub returns : goal.returns
returns g c = least-found (g.T.KnownIds.known c.args.world.now) (local_holds c.args.table.now.entries) c.fold.result (grind (arith, parts))
