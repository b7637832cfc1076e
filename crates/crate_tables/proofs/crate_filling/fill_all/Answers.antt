use Rattle.crate_tables.proofs.ShortLemmas.{passed}
use Rattle.crate_tables.proofs.RunLemmas.{next-runs, next-so_far}
use Rattle.crate_tables.proofs.FillingLemmas.{all-crates, needs-of, roots-on}
use Rattle.crate_tables.proofs.KeptLemmas.{kept-further}
use Rattle.crate_tables.specs.Steps.{next-in}
use Rattle.crate_tables.proofs.crate_filling.fill_all.Goals as goal

pub returns-in_err-fill_next-clause-stays : goal.returns-in_err-fill_next-clause-stays
returns-in_err-fill_next-clause-stays c = kept-further _ _ _ c.loop-number.invariant.stays c.in_err-fill_next.ensures.stays

pub fill_next-requires-clause-roots : goal.fill_next-requires-clause-roots
fill_next-requires-clause-roots c = roots-on c.args.builder.now c.loop-number.builder _ c.loop-number.invariant.stays c.requires.roots

pub fill_next-requires-clause-needs : goal.fill_next-requires-clause-needs
fill_next-requires-clause-needs c =
    needs-of c.args.graph.now c.crates-described-items.result.now c.loop-number.number c.described-item.result c.loop-number-test.true c.described-item.is c.crates-described-items.ensures.known

pub loop-number-preserved : goal.loop-number-preserved
loop-number-preserved c =
    let made = c.in_ok-fill_next.ensures.filled in
    record {
      so_far =
          next-so_far c.args.reading.now c.args.graph.now _ _ _ c.loop-number.number c.described-item.result _ made.0 made.1
          (next-in c.args.graph.now c.crates-described-items.result.now c.loop-number.number c.described-item.result c.crates-described-items.ensures.all c.loop-number-test.true c.described-item.is)
          made.3 made.2 c.loop-number.invariant.so_far;
      known = c.in_ok-fill_next.ensures.known;
      stays = kept-further _ _ _ c.loop-number.invariant.stays c.in_ok-fill_next.ensures.stays;
    }

pub returns-clause-filled : goal.returns-clause-filled
returns-clause-filled c =
    all-crates c.args.reading.now c.args.graph.now c.crates-described-items.result.now _ _ c.loop-number.number c.crates-described-items.ensures.all c.loop-number-test.false c.loop-number.invariant.so_far

pub returns-in_err-fill_next-clause-fault : goal.returns-in_err-fill_next-clause-fault
returns-in_err-fill_next-clause-fault c =
    passed c.from_residual.result c.in_err-fill_next.field-0.0 _ c.from_residual.ensures.1
    (next-runs c.args.reading.now c.args.graph.now _ (record { world = c.loop-number.builder; lists = c.loop-number.lists.items; tables = c.loop-number.tables.items; rows = c.loop-number.externs.items })
    c.loop-number.number c.described-item.result _ _
    (next-in c.args.graph.now c.crates-described-items.result.now c.loop-number.number c.described-item.result c.crates-described-items.ensures.all c.loop-number-test.true c.described-item.is)
    c.loop-number.invariant.so_far c.in_err-fill_next.ensures.fault)
