use Rattle.std.proofs.Common.{◌≡◌}
use Rattle.std.specs.List.{fold}
use Rattle.dm_maps.specs.Held.{noted}
use Rattle.dm_maps.specs.ScopeHolds.{legacies_hold}
use Rattle.dm_maps.proofs.check.note_scopes.note_legacies.Given as goal

abbrev pub invariant-loop-macros : goal.invariant-loop-macros
invariant-loop-macros g l = fold (noted (g.T.KnownIds.known l.world)) l.least (legacies_hold l.macros-iterator) ≡ fold (noted (g.T.KnownIds.known l.world)) l.fn.least (legacies_hold l.scope.legacy_macros)
