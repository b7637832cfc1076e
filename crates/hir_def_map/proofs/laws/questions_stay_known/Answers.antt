use Rattle.hir_def_map.proofs.QuestionLemmas.{path-on, preludes-on, visibility-on}
use Rattle.hir_def_map.proofs.laws.questions_stay_known.Goals as goal

pub returns : goal.returns
returns c = record {
  path = λ w v stays M N L m kind asked there. path-on w v stays M N there L m kind asked;
  preludes = λ w v stays M N L m kind asked there. preludes-on w v stays M N there L m kind asked;
  visibility = λ w v stays M N L m raw asked there. visibility-on w v stays M N there L m raw asked;
}
