use Rattle.std.proofs.Common.{refl}
use Rattle.macro_rules.specs.Fragments.{goal_move, fragment_len}
use Rattle.macro_rules.proofs.fragment_rows.metas.Goals as goal

pub returns : goal.returns
unfolding goal_move fragment_len
returns c = record {
  a_meta_has_a_value = refl;
  a_meta_has_a_group = refl;
  a_meta_is_unsafe = refl;
  a_meta_has_no_angles = refl;
}
