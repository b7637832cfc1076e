use Rattle.std.proofs.Common.{arith}
use Rattle.dm_maps.specs.Pushes.{push_holds}
use Rattle.dm_maps.proofs.Least.{least-found}
use Rattle.dm_maps.proofs.Sets.{parts}
use Rattle.dm_maps.proofs.check.note_pushes.note_push.Goals as goal

pub returns-in-None : goal.returns-in-None
returns-in-None g c = least-found (g.T.KnownIds.known c.args.world.now) (push_holds c.args.m c.args.res.now c.args.import) c.note_res.result (grind (arith, parts))

pub returns-in-Some : goal.returns-in-Some
returns-in-Some g c = least-found (g.T.KnownIds.known c.args.world.now) (push_holds c.args.m c.args.res.now c.args.import) c.note_res-in-Some.result (grind (arith, parts))
