use Rattle.std.proofs.Common.{◌≡◌}
use Rattle.std.specs.List.{fold, flat_map}
use Rattle.dm_maps.specs.Held.{noted}
use Rattle.dm_maps.specs.Holding.{def_holds}
use Rattle.dm_maps.proofs.check.note_scopes.note_declarations.Given as goal

abbrev pub invariant-loop-def : goal.invariant-loop-def
invariant-loop-def g l = fold (noted (g.T.KnownIds.known l.world)) l.least (flat_map def_holds l.def-iterator) ≡ fold (noted (g.T.KnownIds.known l.world)) l.fn.least (flat_map def_holds l.scope.declarations)
