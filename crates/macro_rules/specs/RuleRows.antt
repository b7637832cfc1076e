-- A rule, laid out.
use Rattle.std.specs.Prelude.{List}
use Rattle.macro_rules.specs.declared.row.Row.{Row}

pub record RuleRows : Type 0 where
  pub matcher : List Row
  pub transcriber : List Row
