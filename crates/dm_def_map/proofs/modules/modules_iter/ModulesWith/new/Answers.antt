use Rattle.dm_base.specs.RunLaws.{shows_in_order}
use Rattle.dm_def_map.proofs.modules.modules_iter.ModulesWith.new.Goals as goal

pub returns-clause-runs : goal.returns-clause-runs
returns-clause-runs g c = shows_in_order (λ m. m)
