use Rattle.crate_tables.proofs.ShortLemmas.{modules-short, passed}
use Rattle.std.proofs.Common.{◌≡◌, ◌∙◌, ◌+◌, ap, drop, rules, sym}
use Rattle.crate_tables.proofs.GrownLemmas.{grown-further}
use Rattle.crate_tables.specs.Steps.{next-in}
use Rattle.crate_tables.specs.CrateMaps.{with_modules}
use Rattle.crate_tables.proofs.crate_maps.add_modules.Goals as goal

pub returns-in_err-add_declared-clause-grown : goal.returns-in_err-add_declared-clause-grown
returns-in_err-add_declared-clause-grown c = grown-further _ _ _ c.loop-declared.invariant.grown c.in_err-add_declared.ensures.grown

pub loop-declared-preserved : goal.loop-declared-preserved
loop-declared-preserved c =
    let same : c.below_root-declared-items.result.now ≡ drop 1 c.args.view.now.list.modules = search rules in
    record {
      filled =
          ap (λ s. with_modules c.args.view.now s (drop (c.loop-declared.declared-index + 1) (drop 1 c.args.view.now.list.modules))) c.in_ok-add_declared.ensures.filled
          ∙ sym (ap (with_modules c.args.view.now (record { world = c.loop-declared.builder; table = c.loop-declared.table })) (next-in (drop 1 c.args.view.now.list.modules) c.below_root-declared-items.result.now c.loop-declared.declared-index c.declared-item.result same c.loop-declared-test.true c.declared-item.is))
          ∙ c.loop-declared.invariant.filled;
      kept = c.in_ok-add_declared.ensures.kept;
      grown = grown-further _ _ _ c.loop-declared.invariant.grown c.in_ok-add_declared.ensures.grown;
    }

pub returns-in_err-add_declared-clause-fault : goal.returns-in_err-add_declared-clause-fault
returns-in_err-add_declared-clause-fault c =
    passed c.from_residual-in_err-add_declared.result c.in_err-add_declared.field-0.0 _ c.from_residual-in_err-add_declared.ensures.1
    (let same : c.below_root-declared-items.result.now ≡ drop 1 c.args.view.now.list.modules = search rules in
    modules-short c.args.view.now (record { world = c.loop-declared.builder; table = c.loop-declared.table }) _ c.loop-declared.declared-index c.declared-item.result _ _
    (next-in (drop 1 c.args.view.now.list.modules) c.below_root-declared-items.result.now c.loop-declared.declared-index c.declared-item.result same c.loop-declared-test.true c.declared-item.is)
    c.loop-declared.invariant.filled c.in_err-add_declared.ensures.fault)
