use Rattle.std.proofs.Common.{refl}
use Rattle.macro_rules.specs.Fragments.{goal_move, fragment_len}
use Rattle.macro_rules.proofs.fragment_rows.paths.Goals as goal

pub returns : goal.returns
unfolding goal_move fragment_len
returns c = record {
  a_path_has_arguments = refl;
  a_path_begins_with_colons = refl;
  a_path_of_a_function = refl;
  a_path_parts_a_shift = refl;
  a_path_ends_before_a_bang = refl;
  a_path_ends_before_braces = refl;
  a_type_that_is_a_path = refl;
}
