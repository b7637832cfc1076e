use Rattle.crate_tables.proofs.ShortLemmas.{passed}
use Rattle.std.proofs.Common.{[]}
use Rattle.crate_tables.specs.CrateMacros.{with_macros}
use Rattle.crate_tables.proofs.MoreCrates.{more-in_scope}
use Rattle.crate_tables.proofs.MoreSteps.{many-short}
use Rattle.crate_tables.proofs.KeptLemmas.{kept-further, kept-grown}
use Rattle.crate_tables.proofs.all_macros.add_macros_in_scope.Goals as goal

pub returns-in_err-macros-clause-stays : goal.returns-in_err-macros-clause-stays
returns-in_err-macros-clause-stays c = kept-grown _ _ c.in_err-macros.ensures.grown

pub returns-in_err-add_in_scope-clause-stays : goal.returns-in_err-add_in_scope-clause-stays
returns-in_err-add_in_scope-clause-stays c = kept-further _ _ _ (kept-grown _ _ c.in_ok-macros.ensures.grown) c.in_err-add_in_scope.ensures.stays

pub returns-clause-stays : goal.returns-clause-stays
returns-clause-stays c = kept-further _ _ _ (kept-grown _ _ c.in_ok-macros.ensures.grown) c.in_ok-add_in_scope.ensures.stays

pub returns-in_err-macros-clause-fault : goal.returns-in_err-macros-clause-fault
returns-in_err-macros-clause-fault c =
    passed c.from_residual.result c.in_err-macros.field-0.0 _ c.from_residual.ensures.1
    (let view = c.args.view.now in
    let made = with_macros view (record { world = c.args.builder.now; table = c.args.table.now; ids = [] }) c.args.items.now in
    many-short made.world _ (more-in_scope view made c.args.items.now) _ c.in_err-macros.ensures.fault)
