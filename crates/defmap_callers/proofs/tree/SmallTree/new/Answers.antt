use Rattle.defmap_callers.proofs.SmallLemmas.{small-lawful}
use Rattle.defmap_callers.proofs.tree.SmallTree.new.Goals as goal

pub invariant_of-result : goal.invariant_of-result
invariant_of-result c = record { lawful = small-lawful }
