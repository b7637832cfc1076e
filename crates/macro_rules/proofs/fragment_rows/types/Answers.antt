use Rattle.std.proofs.Common.{refl}
use Rattle.macro_rules.specs.Fragments.{goal_move, fragment_len}
use Rattle.macro_rules.proofs.fragment_rows.types.Goals as goal

pub returns : goal.returns
unfolding goal_move fragment_len
returns c = record {
  a_reference = refl;
  a_pointer = refl;
  two_references = refl;
  groups = refl;
  a_slice = refl;
  never = refl;
  a_hole = refl;
  a_function = refl;
  a_binder = refl;
  bounds = refl;
  a_trait_object = refl;
  a_qualified_path = refl;
  a_comparison_in_braces = refl;
  a_macro = refl;
  a_type_parts_a_shift = refl;
  a_type_parts_two_shifts = refl;
  a_type_parts_a_comparison = refl;
  a_type_parts_an_assignment = refl;
  no_bounds_in_a_reference = refl;
  no_bounds_behind_an_arrow = refl;
  a_type_ends_before_a_name = refl;
  a_fragment_has_no_bounds = refl;
  a_path_has_bounds = refl;
}
