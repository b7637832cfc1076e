use Rattle.std.proofs.Common.{refl}
use Rattle.item_tree.specs.ItemEnds.{item_end}
use Rattle.item_tree.specs.ItemKinds.{item_kind}
use Rattle.item_tree.specs.ItemParts.{first_item}
use Rattle.item_tree.proofs.items.item_rows.items_with_more_within.Goals as goal

pub returns : goal.returns
unfolding first_item item_kind item_end
returns c = record {
  for_a_macro = refl;
  macros_in_header = refl;
  never_returns = refl;
  for_never = refl;
  where_attributes = refl;
  value_attributes = refl;
  cut_where = refl;
  type_const = refl;
  all_qualifiers = refl;
  const_auto_trait = refl;
  const_auto = refl;
}
