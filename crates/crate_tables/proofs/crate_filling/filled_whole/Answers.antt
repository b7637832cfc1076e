use Rattle.crate_tables.proofs.MapLemmas.{filled-maps}
use Rattle.crate_tables.proofs.MoreSteps.{short-for}
use Rattle.crate_tables.proofs.RunLemmas.{blocks-run, builder-or}
use Rattle.crate_tables.proofs.FillingLemmas.{tables-on}
use Rattle.crate_tables.proofs.KeptLemmas.{nothing-kept}
use Rattle.crate_tables.proofs.crate_filling.filled_whole.Goals as goal
use Rattle.crate_tables.specs.BlockLists.{blocks_of}
use Rattle.crate_tables.specs.CrateFillings.{Crates, IsFaultIn, RunsOut}
use Rattle.crate_tables.specs.CrateTables.{Table}
use Rattle.crate_tables.specs.Numbers.{is_past, is_shortage}
use Rattle.dm_maps.specs.declared.build_fault.BuildFault.{BuildFault}
use Rattle.std.proofs.Common.{◌≡◌, List, length, subst, true}

pub returns-in-Ok-clause-empty : goal.returns-in-Ok-clause-empty
returns-in-Ok-clause-empty c = nothing-kept c.in_ok-made.made.builder c.finish.new.builder c.finish.ensures.stays c.in_ok-made.ensures.empty

pub returns-in-Ok-clause-known : goal.returns-in-Ok-clause-known
returns-in-Ok-clause-known c = tables-on _ _ _ c.finish.ensures.stays c.in_ok-made.ensures.known

pub finish-requires : goal.finish-requires
finish-requires c = record { maps = filled-maps c.args.reading.now c.args.graph.now _ c.in_ok-made.ensures.filled }

pub returns-in-Err-clause-fault : goal.returns-in-Err-clause-fault
returns-in-Err-clause-fault c =
    let f : BuildFault = c.in-Err.fault in
    let all : Crates = record { world = c.in_ok-made.made.builder; lists = c.in_ok-made.made.lists.items; tables = c.in_ok-made.made.tables.items; rows = c.in_ok-made.made.externs.items } in
    builder-or (is_past (length (blocks_of all.tables)) ≡ true) (RunsOut c.args.reading.now c.args.graph.now) (IsFaultIn c.args.reading.now c.args.graph.now)
    (blocks-run c.args.reading.now c.args.graph.now all c.in_ok-made.ensures.filled) f _ c.of_builder.ensures
    (short-for (is_past (length (blocks_of all.tables))) (is_past (length (blocks_of all.tables)) ≡ true) (λ past. past) f
    (subst (λ (ts : List Table). is_shortage (is_past (length (blocks_of ts))) f ≡ true) c.as_slice-2.ensures.value c.in-Err.ensures.fault))
