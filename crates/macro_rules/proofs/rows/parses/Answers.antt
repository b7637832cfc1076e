use Rattle.std.proofs.Common.{[], ◌∷◌, refl, arith}
use Rattle.macro_rules.specs.Beginnings.{begins}
use Rattle.macro_rules.specs.Expansions.{written, applied}
use Rattle.macro_rules.specs.FragmentNames.{kind_named}
use Rattle.macro_rules.specs.Fragments.{goal_move, fragment_len}
use Rattle.macro_rules.specs.Grammar.{repetition_rows, variable_row, token_row, no_rows, parted, once}
use Rattle.macro_rules.specs.Laws.{first}
use Rattle.macro_rules.specs.Readings.{dollar_read, one_read}
use Rattle.macro_rules.specs.Rules.{parts_read, rule_read, rule_len}
use Rattle.macro_rules.specs.Runs as run
use Rattle.macro_rules.specs.Runs.{took, goes_on, turns, takes, reads, steps}
use Rattle.macro_rules.specs.Threads.{turn_at}
use Rattle.macro_rules.specs.Walks.{by_turn}
use Rattle.macro_rules.specs.Writings.{step}
use Rattle.macro_rules.proofs.rows.parses.Goals as goal

pub returns-clause-two_names : goal.returns-clause-two_names
unfolding begins goal_move fragment_len turn_at by_turn kind_named dollar_read one_read step parts_read rule_read rule_len written applied
returns-clause-two_names c = refl

pub returns-clause-one_name : goal.returns-clause-one_name
unfolding begins goal_move fragment_len turn_at by_turn kind_named dollar_read one_read step parts_read rule_read rule_len written applied
returns-clause-one_name c = refl

pub returns-clause-no_name : goal.returns-clause-no_name
unfolding begins goal_move fragment_len turn_at by_turn kind_named dollar_read one_read step parts_read rule_read rule_len written applied
returns-clause-no_name c = refl

pub returns-clause-ambiguous : goal.returns-clause-ambiguous
unfolding begins goal_move fragment_len turn_at by_turn kind_named dollar_read one_read step parts_read rule_read rule_len written applied
returns-clause-ambiguous c = record {
  are_rows = refl;
  by_first = record {
    place = 1;
    before = took 4 1 1 ∷ took 3 1 1 ∷ took 2 0 1 ∷ took 1 0 0 ∷ took 0 0 0 ∷ [];
    reached = steps (steps (steps (steps (steps run.begins (goes_on {r = 0} {s = 1} {p = 0} refl)) (goes_on {r = 1} {s = 2} {p = 0} refl)) (takes {r = 2} {s = 3} {p = 0} refl refl)) (goes_on {r = 3} {s = 4} {p = 1} refl)) (turns {r = 4} {s = 8} {p = 1} refl);
    whole = omega arith;
    are = refl;
  };
  by_second = record {
    place = 1;
    before = took 7 1 1 ∷ took 6 0 1 ∷ took 5 0 0 ∷ took 4 0 0 ∷ took 0 0 0 ∷ [];
    reached = steps (steps (steps (steps (steps run.begins (turns {r = 0} {s = 4} {p = 0} refl)) (goes_on {r = 4} {s = 5} {p = 0} refl)) (goes_on {r = 5} {s = 6} {p = 0} refl)) (takes {r = 6} {s = 7} {p = 0} refl refl)) (goes_on {r = 7} {s = 8} {p = 1} refl);
    whole = omega arith;
    are = refl;
  };
}

pub returns-clause-grammars : goal.returns-clause-grammars
unfolding begins goal_move fragment_len turn_at by_turn kind_named dollar_read one_read step parts_read rule_read rule_len written applied
returns-clause-grammars c = record {
  are_rows = refl;
  commas = repetition_rows refl refl refl (variable_row refl refl no_rows) (parted refl refl) no_rows;
  optional = repetition_rows refl refl refl (token_row refl no_rows) (once refl refl) (repetition_rows refl refl refl (token_row refl no_rows) (once refl refl) no_rows);
}

pub returns-clause-first_counts : goal.returns-clause-first_counts
unfolding begins goal_move fragment_len turn_at by_turn kind_named dollar_read one_read step parts_read rule_read rule_len written applied
returns-clause-first_counts c = record {
  are_rules = refl;
  stands_for = first (record { place = 1; before = took 0 0 1 ∷ []; reached = steps run.begins (reads {r = 0} {p = 0} {n = 1} refl refl refl); whole = omega arith; are = refl }) refl;
}

pub returns-clause-twice : goal.returns-clause-twice
unfolding begins goal_move fragment_len turn_at by_turn kind_named dollar_read one_read step parts_read rule_read rule_len written applied
returns-clause-twice c = refl

pub returns-clause-once : goal.returns-clause-once
unfolding begins goal_move fragment_len turn_at by_turn kind_named dollar_read one_read step parts_read rule_read rule_len written applied
returns-clause-once c = refl

pub returns-clause-never : goal.returns-clause-never
unfolding begins goal_move fragment_len turn_at by_turn kind_named dollar_read one_read step parts_read rule_read rule_len written applied
returns-clause-never c = refl
