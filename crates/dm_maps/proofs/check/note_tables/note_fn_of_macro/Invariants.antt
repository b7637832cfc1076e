use Rattle.std.proofs.Common.{◌≡◌}
use Rattle.std.specs.List.{fold, flat_map}
use Rattle.dm_maps.specs.Held.{noted}
use Rattle.dm_maps.specs.TablesHold.{fn_of_macro_holds}
use Rattle.dm_maps.proofs.check.note_tables.note_fn_of_macro.Given as goal

abbrev pub invariant-loop-m : goal.invariant-loop-m
invariant-loop-m g l = fold (noted (g.T.KnownIds.known l.world)) l.least (flat_map fn_of_macro_holds l.m-iterator) ≡ fold (noted (g.T.KnownIds.known l.world)) l.fn.least (flat_map fn_of_macro_holds l.table.entries)
