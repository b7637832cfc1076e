use Rattle.crate_tables.proofs.ShortLemmas.{passed}
use Rattle.crate_tables.proofs.RunLemmas.{builder-or, crate-runs, listed-or}
use Rattle.crate_tables.proofs.crate_filling.fill_crate.Goals as goal
use Rattle.crate_tables.specs.CrateFillings.{CrateRunsOut, FillRunsOut, IsFaultOf, Reading}
use Rattle.crate_tables.specs.Numbers.{IsShortage}
use Rattle.dm_maps.specs.declared.build_fault.BuildFault.{BuildFault}
use Rattle.std.proofs.Common.{subst}

pub returns-in_err-list-clause-fault : goal.returns-in_err-list-clause-fault
returns-in_err-list-clause-fault c = passed c.from_residual.result c.in_err-list.field-0.0 _ c.from_residual.ensures.1 (listed-or _ c.args.reading.now c.args.krate c.args.described.now _ c.in_err-list.ensures.fault)

pub returns-in-Err-clause-fault : goal.returns-in-Err-clause-fault
returns-in-Err-clause-fault c =
    let k = c.args.krate in
    let d = c.args.described.now in
    let w = c.args.builder.now in
    let rows = c.args.externs.now.items in
    let l = c.in_ok-list.list in
    let f : BuildFault = c.in-Err.fault in
    builder-or (FillRunsOut c.args.reading.now.files k d w rows l) (CrateRunsOut c.args.reading.now k d w rows) (IsFaultOf c.args.reading.now k d)
    (crate-runs c.args.reading.now k d w rows l c.in_ok-list.ensures.is) f _ c.of_builder.ensures
    (subst (λ (r : Reading). IsShortage (FillRunsOut r.files k d w rows l) f) c.reading.view_is c.in-Err.ensures.fault)
