use Rattle.crate_tables.proofs.ShortLemmas.{blocks-left, blocks-short, passed}
use Rattle.std.proofs.Common.{◌∙◌, ◌+◌, ◌++◌, List, ap, drop, length, sym}
use Rattle.crate_tables.proofs.BlockLemmas.{blocks-append}
use Rattle.crate_tables.specs.Steps.{next-of}
use Rattle.crate_tables.specs.BlockLists.{blocks_of, with_blocks_from}
use Rattle.crate_tables.specs.CrateTables.{Table}
use Rattle.crate_tables.specs.declared.item_place.BlockPlace.{BlockPlace}
use Rattle.crate_tables.proofs.block_lists.list_blocks.Goals as goal

pub loop-table-preserved : goal.loop-table-preserved
loop-table-preserved c =
    let n = c.loop-table.table-index in
    let w = c.loop-table.builder in
    let k = c.loop-table.number in
    let ts = c.args.tables.now in
    let bs = c.blocks-in-loop-table.result.now in
    let rest = blocks_of (drop (n + 1) ts) in
    record {
      world =
          ap (λ u. with_blocks_from u c.in_ok-number.number rest) c.in_ok-number.ensures.world
          ∙ ap (λ m. with_blocks_from (with_blocks_from w k bs) m rest) c.in_ok-number.ensures.number
          ∙ sym (blocks-append w k bs rest)
          ∙ ap (λ (xs : List BlockPlace). with_blocks_from w k (xs ++ rest)) c.blocks-in-loop-table.ensures
          ∙ sym (ap (λ (us : List Table). with_blocks_from w k (blocks_of us)) (next-of ts n c.table-item.result c.loop-table-test.true c.table-item.is))
          ∙ c.loop-table.invariant.world;
      number =
          ap (λ m. m + length rest) c.in_ok-number.ensures.number
          ∙ blocks-left n k (length (blocks_of ts)) ts c.table-item.result bs (next-of ts n c.table-item.result c.loop-table-test.true c.table-item.is) c.blocks-in-loop-table.ensures c.loop-table.invariant.number;
      stays = λ h known. c.in_ok-number.ensures.stays h (c.loop-table.invariant.stays h known);
      shown = λ g m ps s. c.in_ok-number.ensures.shown g m ps (c.loop-table.invariant.shown g m ps s);
    }

pub returns-in_err-number-clause-fault : goal.returns-in_err-number-clause-fault
returns-in_err-number-clause-fault c =
    passed c.from_residual.result c.in_err-number.field-0.0 _ c.from_residual.ensures.1
    (let n = c.loop-table.table-index in
    let ts = c.args.tables.now in
    blocks-short n c.loop-table.number (length (blocks_of ts)) ts c.table-item.result c.blocks-in-loop-table.result.now _
    (next-of ts n c.table-item.result c.loop-table-test.true c.table-item.is) c.blocks-in-loop-table.ensures c.loop-table.invariant.number c.in_err-number.ensures.fault)
