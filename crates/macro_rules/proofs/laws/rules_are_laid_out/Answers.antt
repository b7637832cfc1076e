use Rattle.macro_rules.proofs.Laid.{rules_laid}
use Rattle.macro_rules.proofs.laws.rules_are_laid_out.Goals as goal

pub returns : goal.returns
returns c = rules_laid
