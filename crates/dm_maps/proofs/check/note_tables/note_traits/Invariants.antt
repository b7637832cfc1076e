use Rattle.std.proofs.Common.{◌≡◌}
use Rattle.std.specs.List.{fold, flat_map}
use Rattle.dm_maps.specs.Held.{noted}
use Rattle.dm_maps.specs.TablesHold.{trait_holds}
use Rattle.dm_maps.proofs.check.note_tables.note_traits.Given as goal

abbrev pub invariant-loop-id : goal.invariant-loop-id
invariant-loop-id g l = fold (noted (g.T.KnownIds.known l.world)) l.least (flat_map trait_holds l.id-iterator) ≡ fold (noted (g.T.KnownIds.known l.world)) l.fn.least (flat_map trait_holds l.table.entries)
