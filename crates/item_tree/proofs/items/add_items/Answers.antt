use Rattle.std.proofs.Common.{◌≡◌, ◌+◌, ◌-◌, ◌++◌, ◌∙◌, List, ap, arith, drop, length, take, length-drop}
use Rattle.std.proofs.lemmas.List.{take_all}
use Rattle.item_tree.specs.Items.{items_from}
use Rattle.item_tree.specs.declared.items.Item.{Item}
use Rattle.item_tree.proofs.NextItem.{next_item}
use Rattle.item_tree.proofs.items.add_items.Goals as goal

pub loop-at-preserved : goal.loop-at-preserved
loop-at-preserved c =
    let parts = c.first_in-parts.result in
    let trees = c.args.trees.now in
    let at = c.loop-at.at in
    let whole : take (length trees - at) (drop at trees) ≡ drop at trees = take_all (length trees - at) (drop at trees) (omega (arith, length-drop at trees)) in
    let within = c.first_in-parts.ensures.within in
    let before = c.loop-at-test.true in
    record {
      in_range = omega (arith, within, ap length whole, length-drop at trees);
      read = ap (λ (xs : List Item). xs ++ items_from c.kind_behind-kind.result c.args.parent c.args.level.range.behind 0 (drop (at + parts.len) trees)) c.in_ok-push.ensures.items
          ∙ (next_item c.loop-at.kind c.kind_behind-kind.result c.args.parent c.args.level.range.behind trees _ at parts c.placed.result c.loop-at.items.items c.loop-at-test.true whole
          c.first_in-parts.ensures.exact c.first_in-parts.ensures.some c.placed.ensures c.kind_behind-kind.ensures ∙ c.loop-at.invariant.read);
    }
