use Rattle.crate_tables.proofs.GrownLemmas.{grown-tables}
use Rattle.crate_tables.proofs.raw_visibilities.set_fields.Goals as goal

pub returns-clause-grown : goal.returns-clause-grown
returns-clause-grown c = grown-tables c.settings_keep_scopes.ensures.tables _ _ _ c.in_ok-set_fields.ensures.ok
