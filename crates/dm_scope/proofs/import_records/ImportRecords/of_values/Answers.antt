use Rattle.dm_base.specs.RunLaws.{shows_in_order}
use Rattle.dm_scope.proofs.import_records.ImportRecords.of_values.Goals as goal

pub returns-clause-runs : goal.returns-clause-runs
returns-clause-runs c = shows_in_order (λ x. x)
