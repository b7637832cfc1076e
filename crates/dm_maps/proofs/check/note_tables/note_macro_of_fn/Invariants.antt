use Rattle.std.proofs.Common.{◌≡◌}
use Rattle.std.specs.List.{fold, flat_map}
use Rattle.dm_maps.specs.Held.{noted}
use Rattle.dm_maps.specs.TablesHold.{macro_of_fn_holds}
use Rattle.dm_maps.proofs.check.note_tables.note_macro_of_fn.Given as goal

abbrev pub invariant-loop-f : goal.invariant-loop-f
invariant-loop-f g l = fold (noted (g.T.KnownIds.known l.world)) l.least (flat_map macro_of_fn_holds l.f-iterator) ≡ fold (noted (g.T.KnownIds.known l.world)) l.fn.least (flat_map macro_of_fn_holds l.table.entries)
