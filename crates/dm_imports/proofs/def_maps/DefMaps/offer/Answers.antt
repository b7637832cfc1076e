use Rattle.dm_imports.proofs.AskLemmas.{module-known}
use Rattle.dm_imports.proofs.def_maps.DefMaps.offer.Goals as goal

pub source_of-requires-clause-into : goal.source_of-requires-clause-into
source_of-requires-clause-into c = module-known c.args.self.now.world c.args.glob.now.into c.requires.0.0

pub offer_from-requires-clause-into : goal.offer_from-requires-clause-into
offer_from-requires-clause-into c = module-known c.args.self.now.world c.args.glob.now.into c.requires.0.0
