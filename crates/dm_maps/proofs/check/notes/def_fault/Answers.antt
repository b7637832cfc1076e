use Rattle.std.proofs.Common.{arith}
use Rattle.dm_maps.specs.Holding.{def_holds}
use Rattle.dm_maps.proofs.Least.{least-found}
use Rattle.dm_maps.proofs.Sets.{parts}
use Rattle.dm_maps.proofs.check.notes.def_fault.Goals as goal

pub returns : goal.returns
returns g c = least-found (g.T.KnownIds.known c.args.world.now) (def_holds c.args.def) c.note_def.result (grind (arith, parts))
