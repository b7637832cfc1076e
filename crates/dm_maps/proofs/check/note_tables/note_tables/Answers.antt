use Rattle.std.proofs.Common.{arith}
use Rattle.dm_maps.specs.TablesHold.{tables_hold}
use Rattle.dm_maps.proofs.Least.{least-found}
use Rattle.dm_maps.proofs.Sets.{parts}
use Rattle.dm_maps.proofs.check.note_tables.note_tables.Goals as goal

pub returns : goal.returns
returns g c = least-found (g.T.KnownIds.known c.args.world.now) (tables_hold c.args.tables.now) c.note_traits.result (grind (arith, parts))
