use Rattle.dm_maps.proofs.SetLemmas.{scope-lent, scoped}
use Rattle.dm_maps.proofs.builder.WorldBuilder.scope_facts_of.Goals as goal

pub returns-clause-there : goal.returns-clause-there
returns-clause-there c = scope-lent c.args.self.now c.lawful.ensures.0 c.args.m c.requires

pub returns-clause-written : goal.returns-clause-written
returns-clause-written c = scoped c.args.self.now c.lawful.ensures.0 c.args.m c.requires
