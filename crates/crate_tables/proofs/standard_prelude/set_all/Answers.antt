use Rattle.crate_tables.proofs.PreludeLemmas.{settings-grown, settings-short}
use Rattle.crate_tables.proofs.standard_prelude.set_all.Goals as goal

pub returns-clause-grown : goal.returns-clause-grown
returns-clause-grown c =
    settings-grown c.settings_keep_scopes.ensures.crate_data c.args.builder.now c.set_crate_data.new.self c.args.krate c.args.settings.items c.set_crate_data.result c.set_crate_data.ensures.ok c.set_crate_data.ensures.err

pub returns-clause-fault : goal.returns-clause-fault
returns-clause-fault c =
    settings-short c.settings_keep_scopes.ensures.crate_data c.args.builder.now c.args.krate c.args.settings.items c.set_crate_data.result c.requires c.set_crate_data.ensures.fault
