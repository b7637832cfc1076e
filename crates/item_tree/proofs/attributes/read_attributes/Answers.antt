use Rattle.std.proofs.Common.{◌≡◌, rules, subst, sym}
use Rattle.item_tree.specs.Attributes.{Table, attributes_of}
use Rattle.item_tree.specs.ItemAttributes.{InOrder}
use Rattle.item_tree.proofs.InOrder.{attributes_in_order}
use Rattle.item_tree.proofs.attributes.read_attributes.Goals as goal

pub invariant_of-result : goal.invariant_of-result
invariant_of-result c =
    let is : c.add_attributes.new.self ≡ attributes_of c.args.text.now c.args.lexemes.now = search rules in
    subst (λ (t : Table). InOrder t.attributes) (sym is) (attributes_in_order c.args.text.now c.args.lexemes.now)
