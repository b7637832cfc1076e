use Rattle.def_diagnostics.proofs.ToldLemmas.{places_come_back}
use Rattle.def_diagnostics.proofs.told_laws.told_places_come_back.Goals as goal

pub returns : goal.returns
returns c = places_come_back
