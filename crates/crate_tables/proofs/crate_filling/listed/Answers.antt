use Rattle.std.proofs.Common.{subst}
use Rattle.crate_tables.specs.CrateFillings.{IsListOf, Reading}
use Rattle.crate_tables.proofs.crate_filling.listed.Goals as goal

pub returns-in-Ok-clause-is : goal.returns-in-Ok-clause-is
returns-in-Ok-clause-is c =
    subst (λ (r : Reading). IsListOf r c.args.described.now c.in-Ok.list) c.reading.view_is (record { sources = c.in-Ok.ensures.sources; modules = c.in-Ok.ensures.modules })
