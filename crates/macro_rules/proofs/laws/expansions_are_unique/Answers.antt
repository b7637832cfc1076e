use Rattle.macro_rules.proofs.Unique.{expansion_unique, no_rule_parses}
use Rattle.macro_rules.proofs.laws.expansions_are_unique.Goals as goal

pub returns : goal.returns
returns c = record { unique = expansion_unique; none = no_rule_parses }
