use Rattle.crate_tables.proofs.ShortLemmas.{macros-short, passed}
use Rattle.std.proofs.Common.{◌∙◌, ◌+◌, ap, drop, sym}
use Rattle.crate_tables.proofs.GrownLemmas.{grown-further}
use Rattle.crate_tables.specs.Steps.{next-of}
use Rattle.crate_tables.specs.CrateMacros.{with_macros}
use Rattle.crate_tables.specs.CrateRoots.{root_id}
use Rattle.dm_maps.specs.declared.check.held.HeldId.TheVariants as held
use Rattle.crate_tables.proofs.crate_macros.add_macros.Goals as goal

pub add_one-requires-clause-root : goal.add_one-requires-clause-root
add_one-requires-clause-root c = c.loop-item.invariant.grown.known (held.Module (root_id c.args.view.now.krate)) c.requires.root

pub returns-in_err-add_one-clause-grown : goal.returns-in_err-add_one-clause-grown
returns-in_err-add_one-clause-grown c = grown-further _ _ _ c.loop-item.invariant.grown c.in_err-add_one.ensures.grown

pub loop-item-preserved : goal.loop-item-preserved
loop-item-preserved c =
    let n = c.loop-item.item-index in
    let view = c.args.view.now in
    record {
      added =
          ap (λ s. with_macros view s (drop (n + 1) c.args.items.now)) c.in_ok-add_one.ensures.added
          ∙ sym (ap (with_macros view (record { world = c.loop-item.builder; table = c.loop-item.table; ids = c.loop-item.ids.items })) (next-of c.args.items.now n c.item-item.result c.loop-item-test.true c.item-item.is))
          ∙ c.loop-item.invariant.added;
      kept = c.in_ok-add_one.ensures.kept;
      ids = c.in_ok-add_one.ensures.ids;
      grown = grown-further _ _ _ c.loop-item.invariant.grown c.in_ok-add_one.ensures.grown;
    }

pub returns-in_err-add_one-clause-fault : goal.returns-in_err-add_one-clause-fault
returns-in_err-add_one-clause-fault c =
    passed c.from_residual.result c.in_err-add_one.field-0.0 _ c.from_residual.ensures.1
    (let n = c.loop-item.item-index in
    macros-short c.args.view.now (record { world = c.loop-item.builder; table = c.loop-item.table; ids = c.loop-item.ids.items }) _ _ _ c.item-item.result _
    (next-of c.args.items.now n c.item-item.result c.loop-item-test.true c.item-item.is) c.loop-item.invariant.added c.in_err-add_one.ensures.fault)
