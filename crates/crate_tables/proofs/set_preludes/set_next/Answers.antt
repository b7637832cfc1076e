use Rattle.crate_tables.proofs.PreludeLemmas.{prelude-set}
use Rattle.crate_tables.proofs.set_preludes.set_next.Goals as goal

pub returns-clause-fault : goal.returns-clause-fault
returns-clause-fault c = prelude-set c.args.builder.now c.args.krate c.set_crate_prelude.result c.requires c.set_crate_prelude.ensures.fault
