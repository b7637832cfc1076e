use Rattle.std.proofs.Common.{arith}
use Rattle.dm_maps.specs.ScopeHolds.{prelude_holds}
use Rattle.dm_maps.proofs.Least.{least-found}
use Rattle.dm_maps.proofs.Sets.{parts}
use Rattle.dm_maps.proofs.check.note_preludes.note_prelude.Goals as goal

pub returns-in-None : goal.returns-in-None
returns-in-None g c = least-found (g.T.KnownIds.known c.args.world.now) (prelude_holds c.args.prelude) c.note-least.result (grind (arith, parts))

pub returns-in-Some : goal.returns-in-Some
returns-in-Some g c = least-found (g.T.KnownIds.known c.args.world.now) (prelude_holds c.args.prelude) c.note.result (grind (arith, parts))
