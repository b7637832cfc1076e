use Rattle.std.proofs.Common.{refl}
use Rattle.item_tree.proofs.attributes.attribute_rows.predicates_and_attributes.Goals as goal

pub returns : goal.returns
returns c = record {
  nested = refl;
  two_names = refl;
  not_of_two = refl;
  settled_all = refl;
  settled_any = refl;
  unknown = refl;
  inner_list = refl;
  raw_name = refl;
  string = refl;
  raw_string = refl;
  two_attributes = refl;
  one_condition = refl;
  seen_through = refl;
  two_items = refl;
}
