use Rattle.std.proofs.Common.{refl}
use Rattle.std.specs.Str.{chars, is_utf8}
use lib.Utf8.{encode}
use Rattle.unicode_normalization.proofs.Computing.{unicode_normalization}
use Rattle.crate_items.specs.Paths.{above, entered}
use Rattle.crate_items.proofs.modules.module_rows.modules_of_small_crates.Goals as goal

pub returns : goal.returns
unfolding above entered is_utf8 chars encode unicode_normalization
returns c = record {
  file_by_path = refl;
  one_file = refl;
  two_files = refl;
  no_file = refl;
  within_itself = refl;
  inline = refl;
  arms = refl;
  select_arms = refl;
  shown = refl;
  shown_in_2015 = refl;
  shown_in_one_form = refl;
  wrong = refl;
  wrong_in_2015 = refl;
  path_within = refl;
  tests = refl;
  bare_modules = refl;
  path_of_file = refl;
}
