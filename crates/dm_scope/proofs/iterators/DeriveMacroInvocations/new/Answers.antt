use Rattle.dm_scope.specs.Derives.{deref_derives}
use Rattle.dm_base.specs.RunLaws.{shows_in_order}
use Rattle.dm_scope.proofs.iterators.DeriveMacroInvocations.new.Goals as goal

pub returns-clause-runs : goal.returns-clause-runs
returns-clause-runs c = shows_in_order deref_derives
