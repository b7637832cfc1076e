use Rattle.dm_def_map.specs.Queries.{deref_module}
use Rattle.dm_base.specs.RunLaws.{shows_in_order}
use Rattle.dm_def_map.proofs.modules.modules_map.ModulesMap.iter.Goals as goal

pub returns-clause-runs : goal.returns-clause-runs
returns-clause-runs c = shows_in_order deref_module
