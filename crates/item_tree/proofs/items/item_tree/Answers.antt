use Rattle.std.proofs.Common.{◌≡◌, ◌<◌, ◌≤◌, length, rules}
use Rattle.item_tree.specs.Items.{top_level_of}
use Rattle.item_tree.proofs.ByParent.{by_parent}
use Rattle.item_tree.proofs.Weights.{less_left, read_more, read_top, all_read, an_item}
use Rattle.item_tree.proofs.items.item_tree.Goals as goal

pub loop-number-init : goal.loop-number-init
loop-number-init c =
    let is : c.add_level.new.items.items ≡ top_level_of c.args.lexemes.now c.args.partners.now = search rules in
    let counted : c.len-top_level.result ≡ length c.add_level.new.items.items = search rules in
    read_top c.args.lexemes.now c.args.partners.now c.len-top_level.result c.add_level.new.items.items is counted

pub loop-number-smaller : goal.loop-number-smaller
loop-number-smaller c =
    let before : c.loop-number.number < length c.loop-number.items.items = search rules in
    less_left c.args.lexemes.now c.args.partners.now c.loop-number.items.items c.add_children.new.items.items c.loop-number.number an_item before c.in_ok-add_children.ensures

pub loop-number-preserved : goal.loop-number-preserved
loop-number-preserved c =
    let before : c.loop-number.number < length c.loop-number.items.items = search rules in
    read_more c.args.lexemes.now c.args.partners.now c.len-top_level.result c.loop-number.number c.loop-number.items.items c.add_children.new.items.items an_item before c.loop-number.invariant
    c.in_ok-add_children.ensures

pub returns : goal.returns
returns c =
    let all : length c.loop-number.items.items ≤ c.loop-number.number = search rules in
    let whole = all_read c.args.lexemes.now c.args.partners.now c.len-top_level.result c.loop-number.number c.loop-number.items.items all c.loop-number.invariant in
    record {
      counted = c.loop-number.invariant.top_in_range;
      top_level = c.loop-number.invariant.top_level;
      whole = whole;
      by_parent = by_parent c.args.lexemes.now c.args.partners.now c.loop-number.items.items whole;
    }
