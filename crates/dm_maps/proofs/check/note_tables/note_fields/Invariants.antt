use Rattle.std.proofs.Common.{◌≡◌}
use Rattle.std.specs.List.{fold, flat_map}
use Rattle.dm_maps.specs.Held.{noted}
use Rattle.dm_maps.specs.TablesHold.{field_list_holds}
use Rattle.dm_maps.proofs.check.note_tables.note_fields.Given as goal

abbrev pub invariant-loop-variant : goal.invariant-loop-variant
invariant-loop-variant g l = fold (noted (g.T.KnownIds.known l.world)) l.least (flat_map field_list_holds l.variant-iterator) ≡ fold (noted (g.T.KnownIds.known l.world)) l.fn.least (flat_map field_list_holds l.table.entries)
