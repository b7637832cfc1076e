use Rattle.crate_tables.proofs.ShortLemmas.{passed}
use Rattle.crate_tables.proofs.MoreSteps.{past-on, short-on}
use Rattle.std.proofs.Common.{◌∙◌, ◌+◌, ◌++◌, [], List, Option, ap, append_assoc, arith, drop, get_or, length, sym}
use Rattle.std.specs.List.{cons_option}
use Rattle.crate_tables.proofs.ContainerLemmas.{option-first}
use Rattle.crate_tables.specs.Containers.{impl_of, impls_from}
use Rattle.crate_tables.specs.declared.assoc_items.containers.Container.{Container}
use Rattle.crate_tables.specs.Steps.{next-copied}
use Rattle.crate_tables.specs.declared.item_place.BlockKind.TheVariants.{TraitImpl}
use Rattle.crate_tables.specs.declared.item_place.BlockPlace.{BlockPlace}
use Rattle.crate_tables.proofs.assoc_items.containers.push_impls.Goals as goal

pub loop-block-preserved : goal.loop-block-preserved
loop-block-preserved c =
    let i = c.loop-block.block-index in
    let n = c.loop-block.number in
    let bs = c.args.blocks.now in
    let found = c.loop-block.found.items in
    let none : BlockPlace = record { kind = TraitImpl; home = record { 0 = 0 }; file = record { 0 = 0 }; item = 0 } in
    let b = get_or bs i none in
    let rest = drop (i + 1) bs in (
      ap (λ k. c.push_if.new.found.items ++ impls_from k rest) c.in_ok-number.ensures.exact
          ∙ ap (λ (xs : List Container). xs ++ impls_from (n + 1) rest) c.in_ok-push_if.ensures
          ∙ ap (λ (o : Option Container). (found ++ cons_option o []) ++ impls_from (n + 1) rest) c.impl_of.ensures
          ∙ append_assoc found (cons_option (impl_of n b) []) (impls_from (n + 1) rest)
          ∙ ap (λ (xs : List Container). found ++ xs) (option-first (impl_of n b) (impls_from (n + 1) rest))
          ∙ sym (ap (λ (xs : List BlockPlace). found ++ impls_from n xs) (next-copied bs i none c.loop-block-test.true))
          ∙ c.loop-block.invariant.0,
      omega (arith, c.in_ok-number.ensures.exact, c.loop-block.invariant.1),
    )

pub returns-in_err-number-clause-fault : goal.returns-in_err-number-clause-fault
returns-in_err-number-clause-fault c = passed c.from_residual-in_err-number.result c.in_err-number.field-0.0 _ c.from_residual-in_err-number.ensures.1 (short-on _ _ (past-on (c.loop-block.number + 1) (c.args.first + length c.args.blocks.now) (omega (arith, c.loop-block.invariant.1, c.loop-block-test.true))) _ c.in_err-number.ensures.fault)
