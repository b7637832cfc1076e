use Rattle.std.proofs.Common.{refl}
use Rattle.macro_rules.specs.Fragments.{goal_move, fragment_len}
use Rattle.macro_rules.proofs.fragment_rows.items.Goals as goal

pub returns : goal.returns
unfolding goal_move fragment_len
returns c = record {
  a_struct = refl;
  a_function_with_a_body = refl;
  braces_in_angles = refl;
  a_constant = refl;
  an_implementation = refl;
  a_macro_call = refl;
  a_definition = refl;
  externs = refl;
  a_visibility_fragment = refl;
  a_body_fragment = refl;
}
