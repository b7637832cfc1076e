use Rattle.crate_tables.proofs.ShortLemmas.{passed}
use Rattle.std.proofs.Common.{get_or}
use Rattle.crate_tables.proofs.AssocLemmas.{rows-short}
use Rattle.std.proofs.Common.{◌∙◌, ◌+◌, ap, drop, sym}
use Rattle.crate_tables.proofs.GrownLemmas.{grown-further}
use Rattle.crate_tables.specs.Steps.{next-copied}
use Rattle.crate_tables.specs.AssocItems.{Filled, with_rows}
use Rattle.crate_items.specs.declared.items.module_items.ModuleItem.{ModuleItem}
use Rattle.crate_tables.proofs.assoc_items.items.add_rows.Goals as goal

pub returns-in_err-add_row-clause-grown : goal.returns-in_err-add_row-clause-grown
returns-in_err-add_row-clause-grown c = grown-further _ _ _ c.loop-row.invariant.grown c.in_err-add_row.ensures.grown

pub loop-row-preserved : goal.loop-row-preserved
loop-row-preserved c =
    let i = c.loop-row.row-index in
    let rows = c.args.rows.now in
    let files = c.args.files.now in
    let l = c.args.list.now in
    let cs = c.args.containers.now in
    let before : Filled = record { world = c.loop-row.builder; places = c.loop-row.places.items } in
    let none : ModuleItem = record { «module» = 0; file = record { 0 = 0 }; item = 0 } in
    record {
      added =
          ap (λ (s : Filled). with_rows files l cs s (drop (i + 1) rows)) c.in_ok-add_row.ensures.added
          ∙ sym (ap (with_rows files l cs before) (next-copied rows i none c.loop-row-test.true))
          ∙ c.loop-row.invariant.added;
      grown = grown-further _ _ _ c.loop-row.invariant.grown c.in_ok-add_row.ensures.grown;
    }

pub returns-in_err-add_row-clause-fault : goal.returns-in_err-add_row-clause-fault
returns-in_err-add_row-clause-fault c =
    passed c.from_residual.result c.in_err-add_row.field-0.0 _ c.from_residual.ensures.1
    (let i = c.loop-row.row-index in
    let rows = c.args.rows.now in
    let none : ModuleItem = record { «module» = 0; file = record { 0 = 0 }; item = 0 } in
    rows-short c.args.files.now c.args.list.now c.args.containers.now (record { world = c.loop-row.builder; places = c.loop-row.places.items }) _ _ _ (get_or rows i none) _
    (next-copied rows i none c.loop-row-test.true) c.loop-row.invariant.added c.in_err-add_row.ensures.fault)
