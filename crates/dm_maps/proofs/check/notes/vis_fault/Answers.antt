use Rattle.std.proofs.Common.{arith}
use Rattle.dm_maps.specs.Holding.{vis_holds}
use Rattle.dm_maps.proofs.Least.{least-found}
use Rattle.dm_maps.proofs.Sets.{parts}
use Rattle.dm_maps.proofs.check.notes.vis_fault.Goals as goal

pub returns : goal.returns
returns g c = least-found (g.T.KnownIds.known c.args.world.now) (vis_holds c.args.vis) c.note_vis.result (grind (arith, parts))
