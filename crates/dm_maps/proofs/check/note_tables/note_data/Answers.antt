use Rattle.std.proofs.Common.{arith}
use Rattle.dm_maps.specs.TablesHold.{data_holds}
use Rattle.dm_maps.proofs.Least.{least-found}
use Rattle.dm_maps.proofs.Sets.{parts}
use Rattle.dm_maps.proofs.check.note_tables.note_data.Goals as goal

pub returns : goal.returns
returns g c = least-found (g.T.KnownIds.known c.args.world.now) (data_holds c.args.shared.now) c.note_fn_of_macro.result (grind (arith, parts))
