use Rattle.std.proofs.Common.{◌∙◌, ◌+◌, ◌++◌, List, ap, drop, sym}
use Rattle.std.proofs.lemmas.Option.{slice_get-get_or}
use Rattle.std.specs.Prelude.{slice_get}
use Rattle.crate_tables.proofs.BlockLemmas.{get-behind, get-first}
use Rattle.crate_tables.specs.Steps.{next-of}
use Rattle.crate_tables.specs.BlockLists.{blocks_of}
use Rattle.crate_tables.specs.CrateTables.{Table}
use Rattle.crate_tables.specs.declared.item_place.BlockKind.TheVariants.{TraitImpl}
use Rattle.crate_tables.specs.declared.item_place.BlockPlace.{BlockPlace}
use Rattle.crate_tables.proofs.block_lists.numbered_block.Goals as goal

pub returns-then-at-blocks : goal.returns-then-at-blocks
returns-then-at-blocks c =
    let n = c.loop-table.table-index in
    let at = c.loop-table.at in
    let ts = c.args.tables.now in
    let bs = c.blocks-blocks.result.now in
    let rest = blocks_of (drop (n + 1) ts) in
    let none : BlockPlace = record { kind = TraitImpl; home = record { 0 = 0 }; file = record { 0 = 0 }; item = 0 } in
    sym (slice_get-get_or bs at none c.if-at-blocks.true)
    ∙ sym (get-first bs rest at c.if-at-blocks.true)
    ∙ ap (λ (xs : List BlockPlace). slice_get (xs ++ rest) at) c.blocks-blocks.ensures
    ∙ sym (ap (λ (us : List Table). slice_get (blocks_of us) at) (next-of ts n c.table-item.result c.loop-table-test.true c.table-item.is))
    ∙ c.loop-table.invariant

pub loop-table-preserved : goal.loop-table-preserved
loop-table-preserved c =
    let n = c.loop-table.table-index in
    let at = c.loop-table.at in
    let ts = c.args.tables.now in
    let bs = c.blocks-blocks.result.now in
    let rest = blocks_of (drop (n + 1) ts) in
    sym (get-behind bs rest at c.if-at-blocks.false)
    ∙ ap (λ (xs : List BlockPlace). slice_get (xs ++ rest) at) c.blocks-blocks.ensures
    ∙ sym (ap (λ (us : List Table). slice_get (blocks_of us) at) (next-of ts n c.table-item.result c.loop-table-test.true c.table-item.is))
    ∙ c.loop-table.invariant
