use Rattle.std.proofs.Common.{◌≡◌}
use Rattle.std.specs.List.{fold, flat_map}
use Rattle.dm_scope.specs.Records.{records_in}
use Rattle.dm_maps.specs.Held.{noted}
use Rattle.dm_maps.specs.ScopeHolds.{record_holds}
use Rattle.dm_maps.proofs.check.note_records.note_records_in.Given as goal

abbrev pub invariant-loop-import : goal.invariant-loop-import
invariant-loop-import g l = fold (noted (g.T.KnownIds.known l.world)) l.least (flat_map record_holds l.import-iterator) ≡ fold (noted (g.T.KnownIds.known l.world)) l.fn.least (flat_map record_holds (records_in l.fn.namespace l.scope))
