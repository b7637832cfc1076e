use Rattle.std.proofs.Common.{refl}
use Rattle.crate_items.specs.Paths.{above, entered}
use Rattle.crate_items.proofs.modules.mod_rows.files_of_modules.Goals as goal

pub returns : goal.returns
unfolding above entered
returns c = record {
  plain_in_other = refl;
  plain_in_owner = refl;
  children_of_both = refl;
  path_in_other = refl;
  path_in_owner = refl;
  path_in_inline_of_other = refl;
  path_in_inline_of_owner = refl;
  path_of_inline_of_other = refl;
  path_of_inline_of_owner = refl;
  children_of_path = refl;
  raw_name = refl;
  raw_inline = refl;
  dots = refl;
  above_root = refl;
  inline_folders = refl;
}
