use Rattle.crate_tables.proofs.ShortLemmas.{passed}
use Rattle.crate_tables.specs.CrateFillings.{with_macros_in_scope}
use Rattle.crate_tables.proofs.MoreCrates.{more-procedural}
use Rattle.crate_tables.proofs.MoreSteps.{many-short}
use Rattle.crate_tables.proofs.KeptLemmas.{kept-further, kept-grown}
use Rattle.crate_tables.proofs.all_macros.add_all_macros.Goals as goal
use Rattle.crate_tables.specs.CrateRoots.{root_id}
use Rattle.dm_maps.specs.declared.check.held.HeldId.TheVariants as held

pub add_procedural_macros-requires-clause-root : goal.add_procedural_macros-requires-clause-root
add_procedural_macros-requires-clause-root c = c.in_ok-add_macros_in_scope.ensures.stays.known (held.Module (root_id c.args.view.now.krate)) c.requires.root

pub returns-in_err-add_procedural_macros-clause-stays : goal.returns-in_err-add_procedural_macros-clause-stays
returns-in_err-add_procedural_macros-clause-stays c = kept-further _ _ _ c.in_ok-add_macros_in_scope.ensures.stays (kept-grown _ _ c.in_err-add_procedural_macros.ensures.grown)

pub returns-clause-stays : goal.returns-clause-stays
returns-clause-stays c = kept-further _ _ _ c.in_ok-add_macros_in_scope.ensures.stays (kept-grown _ _ c.in_ok-add_procedural_macros.ensures.grown)

pub returns-in_err-add_macros_in_scope-clause-fault : goal.returns-in_err-add_macros_in_scope-clause-fault
returns-in_err-add_macros_in_scope-clause-fault c =
    passed c.from_residual.result c.in_err-add_macros_in_scope.field-0.0 _ c.from_residual.ensures.1
    (let view = c.args.view.now in
    let next = with_macros_in_scope view (record { world = c.args.builder.now; table = c.args.table.now }) c.args.items.now in
    many-short next.world _ (more-procedural view next c.args.items.now) _ c.in_err-add_macros_in_scope.ensures.fault)
