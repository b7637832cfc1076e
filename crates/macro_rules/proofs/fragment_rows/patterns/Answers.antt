use Rattle.std.proofs.Common.{refl}
use Rattle.macro_rules.specs.Fragments.{goal_move, fragment_len}
use Rattle.macro_rules.proofs.fragment_rows.patterns.Goals as goal

pub returns : goal.returns
unfolding goal_move fragment_len
returns c = record {
  bars = refl;
  a_pattern_in_a_name = refl;
  a_range_of_literals = refl;
  a_range_of_paths = refl;
  an_open_range_pattern = refl;
  a_struct_pattern = refl;
  a_qualified_pattern = refl;
  a_pattern_ends_before_if = refl;
  a_pattern_ends_before_a_name = refl;
  a_literal_fragment = refl;
  no_bars = refl;
}
