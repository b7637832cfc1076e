use Rattle.std.proofs.Common.{◌≡◌}
use Rattle.std.specs.List.{fold, flat_map}
use Rattle.dm_maps.specs.Held.{noted}
use Rattle.dm_maps.specs.ScopeHolds.{unnamed_trait_holds}
use Rattle.dm_maps.proofs.check.note_scopes.note_unnamed_traits.Given as goal

abbrev pub invariant-loop-unnamed : goal.invariant-loop-unnamed
invariant-loop-unnamed g l = fold (noted (g.T.KnownIds.known l.world)) l.least (flat_map unnamed_trait_holds l.unnamed-iterator) ≡ fold (noted (g.T.KnownIds.known l.world)) l.fn.least (flat_map unnamed_trait_holds l.scope.unnamed_traits)
