use Rattle.def_diagnostics.proofs.KnownLemmas.{known_in_tree}
use Rattle.def_diagnostics.proofs.hidden_calls.is_around.Goals as goal

pub contains-requires : goal.contains-requires
contains-requires c = known_in_tree c.args.world.now c.args.m c.requires
