use Rattle.dm_imports.proofs.AskLemmas.{maps-known}
use Rattle.dm_imports.proofs.rules.supported.is_supported.Goals as goal

pub all_given-requires-clause-known : goal.all_given-requires-clause-known
all_given-requires-clause-known c = maps-known c.args.maps.now c.requires

pub judge-requires-clause-known : goal.judge-requires-clause-known
judge-requires-clause-known c = maps-known c.args.maps.now c.requires
