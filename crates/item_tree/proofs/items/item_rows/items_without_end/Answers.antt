use Rattle.std.proofs.Common.{refl}
use Rattle.item_tree.specs.ItemEnds.{item_end}
use Rattle.item_tree.specs.ItemKinds.{item_kind}
use Rattle.item_tree.specs.ItemParts.{first_item}
use Rattle.item_tree.proofs.items.item_rows.items_without_end.Goals as goal

pub returns : goal.returns
unfolding first_item item_kind item_end
returns c = record {
  of_use = refl;
  of_crate = refl;
  of_const = refl;
  of_type = refl;
  of_struct = refl;
  of_static = refl;
  of_function = refl;
  of_level = refl;
  of_call = refl;
  of_rules = refl;
}
