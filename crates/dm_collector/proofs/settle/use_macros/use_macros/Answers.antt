use Rattle.dm_collector.proofs.MacroLemmas.{used-by-none}
use Rattle.dm_collector.proofs.settle.use_macros.use_macros.Goals as goal

pub returns-clause-used : goal.returns-clause-used
returns-clause-used c = λ none.
    used-by-none c.args.world.now c.args.uses.now c.in_ok-names.names.items c.in_ok-names.ensures.some (c.in_ok-written.ensures.idle none) c.in_ok-names.ensures.used
