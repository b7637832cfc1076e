use Rattle.macro_rules.proofs.Repeated.{repeats}
use Rattle.macro_rules.proofs.laws.repetitions_are_written_as_captured.Goals as goal

pub returns : goal.returns
returns c = λ rows matcher table input n. repeats rows matcher table input n
