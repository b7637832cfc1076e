use Rattle.crate_tables.proofs.ShortLemmas.{passed, uses-short}
use Rattle.std.proofs.Common.{◌∙◌, ◌+◌, ap, drop, sym}
use Rattle.crate_tables.proofs.GrownLemmas.{grown-further}
use Rattle.crate_tables.proofs.UseLemmas.{macros-on}
use Rattle.crate_tables.specs.CrateUses.{with_uses_from}
use Rattle.crate_tables.specs.Steps.{next-of}
use Rattle.crate_tables.proofs.crate_uses.add_all.Goals as goal

pub add_one-requires-clause-macros : goal.add_one-requires-clause-macros
add_one-requires-clause-macros c = macros-on _ _ c.args.textual.now.macros c.loop-number.invariant.grown c.requires.macros

pub returns-in_err-add_one-clause-grown : goal.returns-in_err-add_one-clause-grown
returns-in_err-add_one-clause-grown c = grown-further _ _ _ c.loop-number.invariant.grown c.in_err-add_one.ensures.grown

pub loop-number-preserved : goal.loop-number-preserved
loop-number-preserved c =
    let n = c.loop-number.number in
    let view = c.args.view.now in
    let textual = c.args.textual.now in
    let items = c.args.items.now in
    record {
      added =
          ap (λ s. with_uses_from view textual s (n + 1) (drop (n + 1) items)) c.in_ok-add_one.ensures.added
          ∙ sym (ap (with_uses_from view textual (record { world = c.loop-number.builder; table = c.loop-number.table }) n) (next-of items n c.index-items-number.result c.loop-number-test.true c.index-items-number.is))
          ∙ c.loop-number.invariant.added;
      kept = c.in_ok-add_one.ensures.kept;
      grown = grown-further _ _ _ c.loop-number.invariant.grown c.in_ok-add_one.ensures.grown;
    }

pub returns-in_err-add_one-clause-fault : goal.returns-in_err-add_one-clause-fault
returns-in_err-add_one-clause-fault c =
    passed c.from_residual.result c.in_err-add_one.field-0.0 _ c.from_residual.ensures.1
    (let n = c.loop-number.number in
    uses-short c.args.view.now c.args.textual.now (record { world = c.loop-number.builder; table = c.loop-number.table }) _ n _ _ c.index-items-number.result _
    (next-of c.args.items.now n c.index-items-number.result c.loop-number-test.true c.index-items-number.is) c.loop-number.invariant.added c.in_err-add_one.ensures.fault)
