use Rattle.std.proofs.Common.{refl}
use Rattle.macro_rules.specs.Expansions.{written, applied}
use Rattle.macro_rules.specs.Beginnings.{begins}
use Rattle.macro_rules.specs.Fragments.{goal_move, fragment_len}
use Rattle.macro_rules.specs.FragmentNames.{kind_named}
use Rattle.macro_rules.specs.Readings.{dollar_read, one_read}
use Rattle.macro_rules.specs.Rules.{parts_read, rule_read, rule_len}
use Rattle.macro_rules.specs.Threads.{turn_at}
use Rattle.macro_rules.specs.Walks.{by_turn}
use Rattle.macro_rules.specs.Writings.{step}
use Rattle.macro_rules.proofs.rows.calls.Goals as goal

pub returns-clause-commas : goal.returns-clause-commas
unfolding begins goal_move fragment_len turn_at by_turn kind_named dollar_read one_read step parts_read rule_read rule_len written applied
returns-clause-commas c = record { written = refl; faultless = refl }

pub returns-clause-first_counts : goal.returns-clause-first_counts
unfolding begins goal_move fragment_len turn_at by_turn kind_named dollar_read one_read step parts_read rule_read rule_len written applied
returns-clause-first_counts c = record { written = refl; faultless = refl }

pub returns-clause-hands_on : goal.returns-clause-hands_on
unfolding begins goal_move fragment_len turn_at by_turn kind_named dollar_read one_read step parts_read rule_read rule_len written applied
returns-clause-hands_on c = record { written = refl; faultless = refl }

pub returns-clause-no_rule : goal.returns-clause-no_rule
unfolding begins goal_move fragment_len turn_at by_turn kind_named dollar_read one_read step parts_read rule_read rule_len written applied
returns-clause-no_rule c = refl

pub returns-clause-ambiguous_token : goal.returns-clause-ambiguous_token
unfolding begins goal_move fragment_len turn_at by_turn kind_named dollar_read one_read step parts_read rule_read rule_len written applied
returns-clause-ambiguous_token c = refl

pub returns-clause-ambiguous_end : goal.returns-clause-ambiguous_end
unfolding begins goal_move fragment_len turn_at by_turn kind_named dollar_read one_read step parts_read rule_read rule_len written applied
returns-clause-ambiguous_end c = refl

pub returns-clause-ways_that_end : goal.returns-clause-ways_that_end
unfolding begins goal_move fragment_len turn_at by_turn kind_named dollar_read one_read step parts_read rule_read rule_len written applied
returns-clause-ways_that_end c = record { written = refl; faultless = refl }

pub returns-clause-question_mark : goal.returns-clause-question_mark
unfolding begins goal_move fragment_len turn_at by_turn kind_named dollar_read one_read step parts_read rule_read rule_len written applied
returns-clause-question_mark c = record { written = refl; faultless = refl }

pub returns-clause-bad_literal : goal.returns-clause-bad_literal
unfolding begins goal_move fragment_len turn_at by_turn kind_named dollar_read one_read step parts_read rule_read rule_len written applied
returns-clause-bad_literal c = refl

pub returns-clause-nested : goal.returns-clause-nested
unfolding begins goal_move fragment_len turn_at by_turn kind_named dollar_read one_read step parts_read rule_read rule_len written applied
returns-clause-nested c = record { written = refl; faultless = refl }

pub returns-clause-repeated_whole : goal.returns-clause-repeated_whole
unfolding begins goal_move fragment_len turn_at by_turn kind_named dollar_read one_read step parts_read rule_read rule_len written applied
returns-clause-repeated_whole c = record { written = refl; faultless = refl }

pub returns-clause-in_step : goal.returns-clause-in_step
unfolding begins goal_move fragment_len turn_at by_turn kind_named dollar_read one_read step parts_read rule_read rule_len written applied
returns-clause-in_step c = record { written = refl; faultless = refl }

pub returns-clause-uneven : goal.returns-clause-uneven
unfolding begins goal_move fragment_len turn_at by_turn kind_named dollar_read one_read step parts_read rule_read rule_len written applied
returns-clause-uneven c = refl

pub returns-clause-lesser_depth : goal.returns-clause-lesser_depth
unfolding begins goal_move fragment_len turn_at by_turn kind_named dollar_read one_read step parts_read rule_read rule_len written applied
returns-clause-lesser_depth c = record { written = refl; faultless = refl }

pub returns-clause-still_repeats : goal.returns-clause-still_repeats
unfolding begins goal_move fragment_len turn_at by_turn kind_named dollar_read one_read step parts_read rule_read rule_len written applied
returns-clause-still_repeats c = refl

pub returns-clause-nothing_repeats : goal.returns-clause-nothing_repeats
unfolding begins goal_move fragment_len turn_at by_turn kind_named dollar_read one_read step parts_read rule_read rule_len written applied
returns-clause-nothing_repeats c = refl

pub returns-clause-needs_one : goal.returns-clause-needs_one
unfolding begins goal_move fragment_len turn_at by_turn kind_named dollar_read one_read step parts_read rule_read rule_len written applied
returns-clause-needs_one c = refl

pub returns-clause-empty_vis : goal.returns-clause-empty_vis
unfolding begins goal_move fragment_len turn_at by_turn kind_named dollar_read one_read step parts_read rule_read rule_len written applied
returns-clause-empty_vis c = record { written = refl; faultless = refl }

pub returns-clause-unknown_name : goal.returns-clause-unknown_name
unfolding begins goal_move fragment_len turn_at by_turn kind_named dollar_read one_read step parts_read rule_read rule_len written applied
returns-clause-unknown_name c = record { written = refl; faultless = refl }
