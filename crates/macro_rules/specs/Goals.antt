-- How a goal is read: so many tokens, and behind them other goals.
use Rattle.std.specs.Prelude.{ℕ}
use Rattle.macro_rules.specs.declared.goal.Goal.{Goal}
use Rattle.macro_rules.specs.declared.goal.Goal.TheVariants as goal
use Rattle.macro_rules.specs.declared.goal.Move.{Move}

-- tokens, and three goals in order
abbrev pub takes_all : ℕ → Goal → Goal → Goal → Move
takes_all len first second third = record { len = len; first = first; second = second; third = third }

abbrev pub takes_both : ℕ → Goal → Goal → Move
takes_both len first second = takes_all len first second goal.Nothing

abbrev pub takes_then : ℕ → Goal → Move
takes_then len first = takes_all len first goal.Nothing goal.Nothing

abbrev pub takes : ℕ → Move
takes len = takes_then len goal.Nothing

-- what cannot be read stays so
abbrev pub impossible : Move
impossible = takes_then 0 goal.Impossible
