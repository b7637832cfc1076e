use Rattle.std.proofs.Common.{arith}
use Rattle.dm_maps.specs.ScopeHolds.{scope_holds}
use Rattle.dm_maps.proofs.Least.{least-found}
use Rattle.dm_maps.proofs.Sets.{parts}
use Rattle.dm_maps.proofs.check.note_scopes.note_scope.Goals as goal

pub returns : goal.returns
returns g c = least-found (g.T.KnownIds.known c.args.world.now) (scope_holds c.args.scope.now) c.note_lists.result (grind (arith, parts))
