-- The rules of a macro, and what is wrong with them.
use Rattle.std.specs.Prelude.{List, Option}
use Rattle.macro_rules.specs.RuleRows.{RuleRows}
use Rattle.macro_rules.specs.declared.reading.RuleFault.{RuleFault}

pub record RulesRead : Type 0 where
  pub rules : List RuleRows
  pub fault : Option RuleFault
