use Rattle.crate_tables.proofs.ShortLemmas.{externs-short, passed}
use Rattle.std.proofs.Common.{◌∙◌, ◌+◌, ap, drop, sym}
use Rattle.crate_tables.proofs.GrownLemmas.{grown-further}
use Rattle.crate_tables.specs.Steps.{next-of}
use Rattle.crate_tables.specs.ExternCrates.{linkable, with_extern_crates}
use Rattle.crate_tables.proofs.extern_crates.add_extern_crates.Goals as goal

pub add_one-requires-clause-roots : goal.add_one-requires-clause-roots
add_one-requires-clause-roots c = c.loop-item.invariant.grown.all (linkable c.args.view.now.krate c.args.dependencies.now) c.requires.roots

pub returns-in_err-add_one-clause-grown : goal.returns-in_err-add_one-clause-grown
returns-in_err-add_one-clause-grown c = grown-further _ _ _ c.loop-item.invariant.grown c.in_err-add_one.ensures.grown

pub loop-item-preserved : goal.loop-item-preserved
loop-item-preserved c =
    let n = c.loop-item.item-index in
    let view = c.args.view.now in
    let ds = c.args.dependencies.now in
    record {
      linked =
          ap (λ s. with_extern_crates view ds s (drop (n + 1) c.args.items.now)) c.in_ok-add_one.ensures.linked
          ∙ sym (ap (with_extern_crates view ds (record { world = c.loop-item.builder; table = c.loop-item.table; rows = c.loop-item.rows.items })) (next-of c.args.items.now n c.item-item.result c.loop-item-test.true c.item-item.is))
          ∙ c.loop-item.invariant.linked;
      kept = c.in_ok-add_one.ensures.kept;
      grown = grown-further _ _ _ c.loop-item.invariant.grown c.in_ok-add_one.ensures.grown;
    }

pub returns-in_err-add_one-clause-fault : goal.returns-in_err-add_one-clause-fault
returns-in_err-add_one-clause-fault c =
    passed c.from_residual.result c.in_err-add_one.field-0.0 _ c.from_residual.ensures.1
    (let n = c.loop-item.item-index in
    externs-short c.args.view.now c.args.dependencies.now (record { world = c.loop-item.builder; table = c.loop-item.table; rows = c.loop-item.rows.items }) _ _ _ c.item-item.result _
    (next-of c.args.items.now n c.item-item.result c.loop-item-test.true c.item-item.is) c.loop-item.invariant.linked c.in_err-add_one.ensures.fault)
