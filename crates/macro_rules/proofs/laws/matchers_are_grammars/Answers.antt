use Rattle.macro_rules.proofs.Layouts.{matchers_laid}
use Rattle.macro_rules.proofs.laws.matchers_are_grammars.Goals as goal

pub returns : goal.returns
returns c = matchers_laid
