use Rattle.macro_rules.proofs.Grammars.{grammar_runs}
use Rattle.macro_rules.proofs.Split.{run_parses}
use Rattle.macro_rules.proofs.laws.rows_are_grammars.Goals as goal

pub returns : goal.returns
returns c = λ bytes rows ts m lay. record {
  by_rows = λ q past parse. grammar_runs bytes rows ts m q lay past parse;
  by_grammar = λ ps parse. run_parses bytes rows ts m lay ps parse;
}
