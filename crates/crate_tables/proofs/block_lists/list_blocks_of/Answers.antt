use Rattle.crate_tables.proofs.ShortLemmas.{passed}
use Rattle.std.proofs.Common.{length}
use Rattle.crate_tables.proofs.MoreSteps.{past-on, short-on}
use Rattle.std.proofs.Common.{◌∙◌, ◌+◌, ap, arith, drop, get_or, sym}
use Rattle.crate_tables.specs.Steps.{next-copied}
use Rattle.crate_tables.specs.BlockLists.{with_block, with_blocks_from}
use Rattle.crate_tables.specs.declared.item_place.BlockKind.TheVariants.{TraitImpl}
use Rattle.crate_tables.specs.declared.item_place.BlockPlace.{BlockPlace}
use Rattle.crate_tables.proofs.block_lists.list_blocks_of.Goals as goal

pub loop-block-preserved : goal.loop-block-preserved
loop-block-preserved c =
    let n = c.loop-block.block-index in
    let w = c.loop-block.builder in
    let k = c.loop-block.number in
    let bs = c.args.blocks.now in
    let rest = drop (n + 1) bs in
    let none : BlockPlace = record { kind = TraitImpl; home = record { 0 = 0 }; file = record { 0 = 0 }; item = 0 } in
    record {
      world =
          ap (λ u. with_blocks_from u c.in_ok-number.number rest) c.in_ok-number.ensures.world
          ∙ ap (λ m. with_blocks_from (with_block w k (get_or bs n none)) m rest) c.in_ok-number.ensures.number
          ∙ sym (ap (with_blocks_from w k) (next-copied bs n none c.loop-block-test.true))
          ∙ c.loop-block.invariant.world;
      number = omega (arith, c.in_ok-number.ensures.number, c.loop-block.invariant.number);
      stays = λ h known. c.in_ok-number.ensures.stays h (c.loop-block.invariant.stays h known);
      shown = λ g m ps s. c.in_ok-number.ensures.shown g m ps (c.loop-block.invariant.shown g m ps s);
    }

pub returns-in_err-number-clause-fault : goal.returns-in_err-number-clause-fault
returns-in_err-number-clause-fault c = passed c.from_residual.result c.in_err-number.field-0.0 _ c.from_residual.ensures.1 (short-on _ _ (past-on (c.loop-block.number + 1) (c.args.first + length c.args.blocks.now) (omega (arith, c.loop-block.invariant.number, c.loop-block-test.true))) _ c.in_err-number.ensures.fault)
