use Rattle.crate_items.proofs.CircleLemmas.{no-circle}
use Rattle.crate_items.proofs.files.crate_laws.ordered_graphs_have_no_circle.Goals as goal

pub returns : goal.returns
returns c = no-circle
