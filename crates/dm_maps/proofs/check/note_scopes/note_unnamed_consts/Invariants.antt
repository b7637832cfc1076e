use Rattle.std.proofs.Common.{◌≡◌, map}
use Rattle.std.specs.List.{fold}
use Rattle.dm_maps.specs.Held.{noted}
use Rattle.dm_maps.specs.ScopeHolds.{unnamed_const_holds}
use Rattle.dm_maps.proofs.check.note_scopes.note_unnamed_consts.Given as goal

abbrev pub invariant-loop-unnamed : goal.invariant-loop-unnamed
invariant-loop-unnamed g l = fold (noted (g.T.KnownIds.known l.world)) l.least (map unnamed_const_holds l.unnamed-iterator) ≡ fold (noted (g.T.KnownIds.known l.world)) l.fn.least (map unnamed_const_holds l.scope.unnamed_consts)
