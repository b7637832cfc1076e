use Rattle.dm_scope.specs.BindingIterators.{deref_name}
use Rattle.dm_base.specs.RunLaws.{shows_in_order}
use Rattle.dm_scope.proofs.bindings.Bindings.iter.Goals as goal

pub returns-clause-runs : goal.returns-clause-runs
returns-clause-runs g c = shows_in_order deref_name
