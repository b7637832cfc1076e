use Rattle.std.proofs.Common.{refl}
use Rattle.macro_rules.specs.Fragments.{goal_move, fragment_len}
use Rattle.macro_rules.proofs.fragment_rows.expressions.Goals as goal

pub returns : goal.returns
unfolding goal_move fragment_len
returns c = record {
  operators = refl;
  a_method_has_arguments = refl;
  a_closure = refl;
  a_closure_with_a_block = refl;
  closures = refl;
  a_condition = refl;
  a_head_has_no_fields = refl;
  heads_nest = refl;
  a_pattern_in_a_head = refl;
  a_loop = refl;
  a_match = refl;
  fields = refl;
  a_borrow = refl;
  an_assignment = refl;
  a_cast = refl;
  a_return = refl;
  nothing_returned = refl;
  a_range = refl;
  an_open_range = refl;
  an_expression_ends_before_an_arrow = refl;
  an_expression_ends_before_a_name = refl;
  an_expression_goes_on = refl;
  a_path_fragment_has_no_fields = refl;
}
