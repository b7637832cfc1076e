use Rattle.crate_tables.proofs.ShortLemmas.{items-short, one-taken, passed}
use Rattle.std.proofs.Common.{◌∙◌, ap, sym}
use Rattle.crate_tables.proofs.DefLemmas.{items-more}
use Rattle.crate_tables.proofs.GrownLemmas.{grown-further}
use Rattle.crate_tables.specs.CrateDefs.{with_declared}
use Rattle.crate_tables.proofs.crate_defs.add_items.Goals as goal

pub loop-item-preserved : goal.loop-item-preserved
loop-item-preserved c = record {
  filled =
      c.in_ok-add_item.ensures.filled
      ∙ ap (λ s. with_declared c.args.view.now s c.in-Some.item) c.loop-item.invariant.filled
      ∙ sym (items-more c.args.view.now (record { world = c.args.builder.now; table = c.args.table.now }) c.loop-item.yielded c.in-Some.item);
  kept = c.in_ok-add_item.ensures.kept;
  rest = one-taken c.loop-item.yielded c.loop-item.item-iterator.rest.items c.next.new.self.rest.items c.args.items.items c.in-Some.item c.loop-item.invariant.rest c.in-Some.ensures.steps.0;
  grown = grown-further _ _ _ c.loop-item.invariant.grown c.in_ok-add_item.ensures.grown;
}

pub returns-in_err-add_item-clause-grown : goal.returns-in_err-add_item-clause-grown
returns-in_err-add_item-clause-grown c = grown-further _ _ _ c.loop-item.invariant.grown c.in_err-add_item.ensures.grown

pub returns-in_err-add_item-clause-fault : goal.returns-in_err-add_item-clause-fault
returns-in_err-add_item-clause-fault c =
    passed c.from_residual.result c.in_err-add_item.field-0.0 _ c.from_residual.ensures.1
    (items-short c.args.view.now (record { world = c.args.builder.now; table = c.args.table.now }) (record { world = c.loop-item.builder; table = c.loop-item.table }) c.loop-item.yielded c.loop-item.item-iterator.rest.items c.next.new.self.rest.items c.args.items.items c.in-Some.item _
    c.loop-item.invariant.filled c.loop-item.invariant.rest c.in-Some.ensures.steps.0 c.in_err-add_item.ensures.fault)
