use Rattle.dm_scope.specs.Iterators.{deref_legacy}
use Rattle.dm_base.specs.RunLaws.{shows_in_order}
use Rattle.dm_scope.proofs.iterators.LegacyMacros.new.Goals as goal

pub returns-clause-runs : goal.returns-clause-runs
returns-clause-runs c = shows_in_order deref_legacy
