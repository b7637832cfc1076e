use Rattle.std.proofs.Common.{arith}
use Rattle.dm_maps.specs.TablesHold.{diagnostics_hold}
use Rattle.dm_maps.proofs.Least.{least-found}
use Rattle.dm_maps.proofs.Sets.{parts}
use Rattle.dm_maps.proofs.check.note_diagnostics.note_diagnostics.Goals as goal

pub returns : goal.returns
returns g c = least-found (g.T.KnownIds.known c.args.world.now) (diagnostics_hold c.args.diagnostics.now) c.fold.result (grind (arith, parts))
