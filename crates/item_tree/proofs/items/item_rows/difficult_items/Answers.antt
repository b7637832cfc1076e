use Rattle.std.proofs.Common.{refl}
use Rattle.item_tree.specs.ItemEnds.{item_end}
use Rattle.item_tree.specs.ItemKinds.{item_kind}
use Rattle.item_tree.specs.ItemParts.{first_item}
use Rattle.item_tree.proofs.items.item_rows.difficult_items.Goals as goal

pub returns : goal.returns
unfolding first_item item_kind item_end
returns c = record {
  qualified = refl;
  unnamed = refl;
  union_call = refl;
  union_item = refl;
  braces_in_angles = refl;
  arrow_in_angles = refl;
  rules = refl;
  call = refl;
  inner = refl;
  attributes_alone = refl;
}
