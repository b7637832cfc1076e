-- What was read of a matcher or a transcriber.
use Rattle.std.specs.Prelude.{List}
use Rattle.macro_rules.specs.declared.reading.Opening.{Opening}
use Rattle.macro_rules.specs.declared.reading.State.{State}
use Rattle.macro_rules.specs.declared.row.Row.{Row}

-- the positions, the groups that are open, the innermost last, and where reading stands
pub record Read : Type 0 where
  pub rows : List Row
  pub groups : List Opening
  pub state : State
