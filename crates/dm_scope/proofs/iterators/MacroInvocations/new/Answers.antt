use Rattle.std.specs.Map.Iter.{deref_pair}
use Rattle.dm_base.specs.RunLaws.{shows_in_order}
use Rattle.dm_scope.proofs.iterators.MacroInvocations.new.Goals as goal

pub returns-clause-runs : goal.returns-clause-runs
returns-clause-runs c = shows_in_order deref_pair
