use Rattle.crate_tables.proofs.MoreSteps.{short-for}
use Rattle.crate_tables.proofs.RunLemmas.{builder-or, roots-run}
use Rattle.crate_tables.proofs.KeptLemmas.{nothing-fresh, nothing-kept}
use Rattle.crate_tables.proofs.crate_filling.filled_alone.Goals as goal
use Rattle.crate_tables.specs.CrateFillings.{IsFaultIn, RunsOut}

pub returns-in_ok-made-in-Ok-clause-empty : goal.returns-in_ok-made-in-Ok-clause-empty
returns-in_ok-made-in-Ok-clause-empty c = nothing-kept c.in-Ok.roots c.in_ok-made-in-Ok.made.builder c.in_ok-made-in-Ok.ensures.stays (nothing-fresh c.in-Ok.roots c.in-Ok.ensures.empty)

pub returns-in-Err-clause-fault : goal.returns-in-Err-clause-fault
returns-in-Err-clause-fault c =
    builder-or _ (RunsOut c.args.reading.now c.args.graph.now) (IsFaultIn c.args.reading.now c.args.graph.now) (roots-run c.args.reading.now c.args.graph.now) c.in-Err.fault _ c.of_builder.ensures (short-for _ _ (λ many. many) c.in-Err.fault c.in-Err.ensures.fault)
