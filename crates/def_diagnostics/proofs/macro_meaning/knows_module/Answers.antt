use Rattle.dm_maps.specs.declared.check.held.HeldId.TheVariants as held
use Rattle.dm_maps.specs.Known.{knows}
use Rattle.def_diagnostics.proofs.KnownLemmas.{knows_same}
use Rattle.def_diagnostics.proofs.macro_meaning.knows_module.Goals as goal

pub returns : goal.returns
returns c = knows_same c.knows_def.result (knows c.args.world.now (held.Module c.args.m)) c.knows_def.ensures
