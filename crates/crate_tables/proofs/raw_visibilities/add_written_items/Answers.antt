use Rattle.crate_tables.proofs.ShortLemmas.{passed}
use Rattle.crate_tables.specs.CrateDefs.{with_items}
use Rattle.crate_tables.proofs.MoreCrates.{more-raws}
use Rattle.crate_tables.proofs.MoreSteps.{many-short}
use Rattle.crate_tables.proofs.GrownLemmas.{grown-further}
use Rattle.crate_tables.proofs.TableLemmas.{table-on}
use Rattle.crate_tables.proofs.raw_visibilities.add_written_items.Goals as goal

pub returns-in_err-set_raw_visibilities-clause-grown : goal.returns-in_err-set_raw_visibilities-clause-grown
returns-in_err-set_raw_visibilities-clause-grown c = grown-further _ _ _ c.in_ok-add_items.ensures.grown c.in_err-set_raw_visibilities.ensures.grown

pub returns-clause-kept : goal.returns-clause-kept
returns-clause-kept c = table-on _ _ _ _ c.in_ok-set_raw_visibilities.ensures.grown c.in_ok-add_items.ensures.kept

pub returns-clause-grown : goal.returns-clause-grown
returns-clause-grown c = grown-further _ _ _ c.in_ok-add_items.ensures.grown c.in_ok-set_raw_visibilities.ensures.grown

pub returns-in_err-add_items-clause-fault : goal.returns-in_err-add_items-clause-fault
returns-in_err-add_items-clause-fault c =
    passed c.from_residual.result c.in_err-add_items.field-0.0 _ c.from_residual.ensures.1
    (let view = c.args.view.now in
    let next = with_items view (record { world = c.args.builder.now; table = c.args.table.now }) c.args.items.items in
    many-short next.world _ (more-raws view next.world next.table.defs) _ c.in_err-add_items.ensures.fault)
