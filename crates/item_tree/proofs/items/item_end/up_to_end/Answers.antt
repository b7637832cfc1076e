use Rattle.std.proofs.Common.{◌≡◌, ◌+◌, ◌-◌, ◌∙◌, sym, arith, drop, false, length, rules, take, length-drop}
use Rattle.std.proofs.lemmas.List.{take_all}
use Rattle.item_tree.specs.Heads.{nothing}
use Rattle.item_tree.proofs.UpToEnd.{at_start, ends_here, next_pending}
use Rattle.item_tree.proofs.items.item_end.up_to_end.Goals as goal

pub loop-at-init : goal.loop-at-init
loop-at-init c = record {
  in_range = omega arith;
  own_in_range = omega arith;
  small = omega arith;
  counted = at_start c.args.item nothing 0 false c.args.trees.now;
}

pub loop-at-preserved : goal.loop-at-preserved
loop-at-preserved c =
    let trees = c.args.trees.now in
    let at = c.loop-at.at in
    let whole : take (length trees - (at + 1)) (drop (at + 1) trees) ≡ drop (at + 1) trees = take_all (length trees - (at + 1)) (drop (at + 1) trees) (omega (arith, length-drop (at + 1) trees)) in
    record {
      in_range = search rules;
      own_in_range = search rules;
      small = search rules;
      counted = next_pending c.args.item c.loop-at.own at c.loop-at.before c.loop-at.depth c.loop-at.calls trees _ _ _ _ _ c.own_behind-own.result c.depth_in-depth.result c.calls_macro-calls.result c.loop-at-test.true whole c.begins_another.ensures
          c.if-begins_another.false c.ends_item.ensures c.if-ends_item.false c.is_qualifier.ensures c.own_behind-own.ensures c.depth_in-depth.ensures.exact c.calls_macro-calls.ensures
          ∙ c.loop-at.invariant.counted;
    }

pub returns-then-ends_item-clause-exact : goal.returns-then-ends_item-clause-exact
returns-then-ends_item-clause-exact c =
    let trees = c.args.trees.now in
    let at = c.loop-at.at in
    let whole : take (length trees - (at + 1)) (drop (at + 1) trees) ≡ drop (at + 1) trees = take_all (length trees - (at + 1)) (drop (at + 1) trees) (omega (arith, length-drop (at + 1) trees)) in
    c.complete.ensures
    ∙ (sym (ends_here c.args.item c.loop-at.own at c.loop-at.before c.loop-at.depth c.loop-at.calls trees _ _ _ _ c.loop-at-test.true whole c.begins_another.ensures c.if-begins_another.false c.ends_item.ensures c.if-ends_item.true)
    ∙ c.loop-at.invariant.counted)
