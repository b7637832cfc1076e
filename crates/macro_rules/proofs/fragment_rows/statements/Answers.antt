use Rattle.std.proofs.Common.{refl}
use Rattle.macro_rules.specs.Fragments.{goal_move, fragment_len}
use Rattle.macro_rules.proofs.fragment_rows.statements.Goals as goal

pub returns : goal.returns
unfolding goal_move fragment_len
returns c = record {
  a_let = refl;
  a_block_ends_a_statement = refl;
  a_block_with_a_method = refl;
  a_macro_ends_a_statement = refl;
  a_macro_goes_on = refl;
  an_item = refl;
  an_unsafe_block = refl;
  a_semicolon = refl;
  a_name_like_an_item = refl;
}
