use Rattle.dm_def_map.specs.LocalHash.{deref_extern}
use Rattle.dm_base.specs.RunLaws.{shows_in_order}
use Rattle.dm_def_map.proofs.modules.local_def_map.LocalDefMap.extern_prelude.Goals as goal

pub returns-clause-runs : goal.returns-clause-runs
returns-clause-runs c = shows_in_order deref_extern
