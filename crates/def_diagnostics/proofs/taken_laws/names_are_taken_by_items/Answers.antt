use Rattle.def_diagnostics.proofs.TakenLemmas.{taken_by_items}
use Rattle.def_diagnostics.proofs.taken_laws.names_are_taken_by_items.Goals as goal

pub returns : goal.returns
returns c = taken_by_items
