use Rattle.std.proofs.Common.{refl}
use Rattle.std.specs.Str.{chars, is_utf8}
use lib.Utf8.{encode}
use Rattle.crate_items.proofs.items.item_rows.items_of_a_small_file.Goals as goal

pub returns : goal.returns
unfolding is_utf8 chars encode
returns c = record {
  homes = refl;
  paths = refl;
  no_paths = refl;
  imports = refl;
  empty_list = refl;
  inner_list = refl;
  list_of_nothing = refl;
}
