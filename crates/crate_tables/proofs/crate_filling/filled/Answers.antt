use Rattle.std.proofs.Common.{subst}
use Rattle.std.specs.Prelude.{All, length}
use Rattle.crate_items.specs.CrateGraphs.{AreKnown, Graph}
use Rattle.crate_tables.proofs.FitFilling.{filled-checked, filled-defs}
use Rattle.crate_tables.proofs.crate_filling.filled.Goals as goal

pub returns-clause-checked : goal.returns-clause-checked
returns-clause-checked c =
    filled-checked c.args.reading.now c.args.graph.now _ (subst (λ (g : Graph). All (AreKnown (length c.args.graph.now)) g) c.crates-crates.ensures.all c.crates-crates.ensures.known) c.in_ok-made.ensures.filled

pub returns-clause-defs : goal.returns-clause-defs
returns-clause-defs c =
    filled-defs c.args.reading.now c.args.graph.now _ (subst (λ (g : Graph). All (AreKnown (length c.args.graph.now)) g) c.crates-crates.ensures.all c.crates-crates.ensures.known) c.in_ok-made.ensures.filled
