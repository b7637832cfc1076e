use Rattle.hir_def_map.proofs.CutLemmas.{answers-alike}
use Rattle.hir_def_map.proofs.laws.answers_alike.Goals as goal

pub returns : goal.returns
returns c = answers-alike
