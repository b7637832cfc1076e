use Rattle.std.proofs.Common.{refl}
use Rattle.macro_rules.specs.Expansions.{written, applied}
use Rattle.macro_rules.specs.Beginnings.{begins}
use Rattle.macro_rules.specs.Fragments.{goal_move, fragment_len}
use Rattle.macro_rules.specs.FragmentNames.{kind_named}
use Rattle.macro_rules.specs.Readings.{dollar_read, one_read}
use Rattle.macro_rules.specs.Rules.{parts_read, rule_read, rule_len}
use Rattle.macro_rules.specs.Threads.{turn_at}
use Rattle.macro_rules.specs.Walks.{by_turn}
use Rattle.macro_rules.specs.Writings.{step}
use Rattle.macro_rules.proofs.rows.definitions.Goals as goal

pub returns : goal.returns
unfolding begins goal_move fragment_len turn_at by_turn kind_named dollar_read one_read step parts_read rule_read rule_len written applied
returns c = record {
  two_of_a_name = refl;
  no_kind = refl;
  empty_repetition = refl;
  nested_empty = refl;
  separated_question_mark = refl;
  dollar_plus = refl;
  dollar_brace = refl;
  no_arrow = refl;
}
