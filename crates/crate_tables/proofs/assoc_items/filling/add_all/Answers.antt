use Rattle.crate_tables.proofs.ShortLemmas.{blocks-left, blocks-short, passed}
use Rattle.crate_tables.specs.BlockLists.{blocks_of}
use Rattle.crate_tables.proofs.MoreSteps.{short-for}
use Rattle.crate_tables.proofs.AssocLemmas.{added-next, blocks-before, next-reason}
use Rattle.std.proofs.Common.{◌≡◌, ◌≤◌, ◌+◌, ◌∙◌, List, ap, arith, drop, get_or, inl, length, refl, rules}
use Rattle.crate_tables.proofs.FillLemmas.{next-added}
use Rattle.crate_tables.specs.AssocItems.{Filled}
use Rattle.crate_tables.proofs.GrownLemmas.{grown-further}
use Rattle.crate_tables.specs.Steps.{next-of}
use Rattle.crate_tables.specs.declared.item_place.BlockPlace.{BlockPlace}
use Rattle.crate_tables.proofs.assoc_items.filling.add_all.Goals as goal

pub loop-krate-preserved : goal.loop-krate-preserved
loop-krate-preserved c =
    let k = c.loop-krate.krate in
    let n = c.loop-krate.first in
    let ts = c.args.tables.now in
    let t = c.index-tables-krate.result in
    let is : t ≡ get_or ts k t = search rules in
    let start : Filled = record { world = c.args.builder.now; places = c.args.places.now.items } in
    let now : Filled = record { world = c.loop-krate.builder; places = c.loop-krate.places.items } in
    let next : Filled = record { world = c.add_next.new.builder; places = c.add_next.new.places.items } in
    record {
      added = next-added c.args.files.now c.args.lists.now ts start now next k n c.in_ok-first.first t
          (next-of ts k t c.loop-krate-test.true is)
          (c.in_ok-first.ensures.exact ∙ ap (λ (bs : List BlockPlace). n + length bs) c.blocks-in-loop-krate.ensures)
          c.in_ok-add_next.ensures.added
          c.loop-krate.invariant.added;
      so_far = added-next c.args.files.now c.args.lists.now k n ts _ t start now next (next-of ts k t c.loop-krate-test.true is) c.loop-krate.invariant.before c.loop-krate.invariant.so_far c.in_ok-add_next.ensures.added;
      before = blocks-before c.args.files.now c.args.lists.now k n c.in_ok-first.first ts _ t (next-of ts k t c.loop-krate-test.true is) c.loop-krate.invariant.before
          (c.in_ok-first.ensures.exact ∙ ap (λ (bs : List BlockPlace). n + length bs) c.blocks-in-loop-krate.ensures);
      left = ap (λ m. m + length (blocks_of (drop (k + 1) ts))) c.in_ok-first.ensures.exact
          ∙ blocks-left k n (length (blocks_of ts)) ts t c.blocks-in-loop-krate.result.now (next-of ts k t c.loop-krate-test.true is) c.blocks-in-loop-krate.ensures c.loop-krate.invariant.left;
      grown = grown-further _ _ _ c.loop-krate.invariant.grown c.in_ok-add_next.ensures.grown;
    }

pub returns-in_err-add_next-clause-fault : goal.returns-in_err-add_next-clause-fault
returns-in_err-add_next-clause-fault c =
    passed c.from_residual.result c.in_err-add_next.field-0.0 _ c.from_residual.ensures.1
    (let k = c.loop-krate.krate in
    let n = c.loop-krate.first in
    let ts = c.args.tables.now in
    let t = c.index-tables-krate.result in
    let is : t ≡ get_or ts k t = search rules in
    let start : Filled = record { world = c.args.builder.now; places = c.args.places.now.items } in
    let now : Filled = record { world = c.loop-krate.builder; places = c.loop-krate.places.items } in
    let first = next-of ts k t c.loop-krate-test.true is in
    let left = blocks-left k n (length (blocks_of ts)) ts t t.blocks first refl c.loop-krate.invariant.left in
    next-reason c.args.files.now c.args.lists.now k n ts _ t start now _ first c.loop-krate.invariant.before (omega (arith, left)) c.loop-krate.invariant.so_far c.in_err-add_next.ensures.fault)

pub returns-in_err-first-clause-fault : goal.returns-in_err-first-clause-fault
returns-in_err-first-clause-fault c =
    passed c.from_residual-in_err-first.result c.in_err-first.field-0.0 _ c.from_residual-in_err-first.ensures.1
    (let k = c.loop-krate.krate in
    let n = c.loop-krate.first in
    let ts = c.args.tables.now in
    let t = c.index-tables-krate.result in
    let is : t ≡ get_or ts k t = search rules in
    short-for _ _ inl _
    (blocks-short k n (length (blocks_of ts)) ts t c.blocks-in-loop-krate.result.now _ (next-of ts k t c.loop-krate-test.true is) c.blocks-in-loop-krate.ensures c.loop-krate.invariant.left c.in_err-first.ensures.fault))

pub returns-in_err-add_next-clause-grown : goal.returns-in_err-add_next-clause-grown
returns-in_err-add_next-clause-grown c = grown-further _ _ _ c.loop-krate.invariant.grown c.in_err-add_next.ensures.grown

pub returns-in_err-first-clause-grown : goal.returns-in_err-first-clause-grown
returns-in_err-first-clause-grown c = grown-further _ _ _ c.loop-krate.invariant.grown c.in_ok-add_next.ensures.grown
