use Rattle.std.proofs.Common.{refl}
use Rattle.item_tree.specs.Members.{first_member}
use Rattle.item_tree.proofs.items.item_rows.difficult_members.Goals as goal

pub returns : goal.returns
unfolding first_member
returns c = record {
  arguments = refl;
  qualified_path = refl;
  cast = refl;
  comparison = refl;
  shift = refl;
  closure = refl;
  unsafe_field = refl;
}
