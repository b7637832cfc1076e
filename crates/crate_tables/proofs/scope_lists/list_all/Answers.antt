use Rattle.std.proofs.Common.{◌∙◌, ◌+◌, ap, drop, false, sym}
use Rattle.crate_tables.specs.Steps.{next-copied}
use Rattle.crate_tables.proofs.TextualLemmas.{table-stays}
use Rattle.crate_tables.specs.ScopeLists.{with_scope_lists}
use Rattle.crate_tables.specs.declared.item_outline.ItemOutline.{ItemOutline}
use Rattle.item_tree.specs.declared.items.item_kind.ItemKind.TheVariants as item
use Rattle.crate_tables.proofs.scope_lists.list_all.Goals as goal

pub returns-in_err-list_item-clause-kept : goal.returns-in_err-list_item-clause-kept
returns-in_err-list_item-clause-kept c =
    table-stays c.loop-outline.builder c.list_item.new.builder c.args.krate c.args.table.now c.in_err-list_item.ensures.stays c.loop-outline.invariant.kept

pub loop-outline-preserved : goal.loop-outline-preserved
loop-outline-preserved c =
    let n = c.loop-outline.outline-index in
    let ms = c.args.index.now in
    let t = c.args.table.now in
    let w = c.loop-outline.builder in
    let none : ItemOutline = record { home = 0; file = record { 0 = 0 }; item = 0; kind = item.Use; is_named = false } in
    record {
      world =
          ap (λ u. with_scope_lists ms t u (drop (n + 1) c.args.outlines.now)) c.in_ok-list_item.ensures.world
          ∙ sym (ap (with_scope_lists ms t w) (next-copied c.args.outlines.now n none c.loop-outline-test.true))
          ∙ c.loop-outline.invariant.world;
      stays = λ h known. c.in_ok-list_item.ensures.stays h (c.loop-outline.invariant.stays h known);
      shown = λ g k ps s. c.in_ok-list_item.ensures.shown g k ps (c.loop-outline.invariant.shown g k ps s);
      kept = table-stays w c.list_item.new.builder c.args.krate t c.in_ok-list_item.ensures.stays c.loop-outline.invariant.kept;
    }
