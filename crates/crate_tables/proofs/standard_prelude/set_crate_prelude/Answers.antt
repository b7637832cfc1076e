use Rattle.crate_tables.proofs.PreludeLemmas.{prelude-grown}
use Rattle.crate_tables.specs.StandardPreludes.{own_map}
use Rattle.crate_tables.proofs.standard_prelude.set_crate_prelude.Goals as goal

pub returns-clause-grown : goal.returns-clause-grown
returns-clause-grown c =
    prelude-grown c.settings_keep_scopes.ensures.maps c.args.builder.now c.set_prelude.new.self (own_map c.args.krate) c.args.prelude c.set_prelude.result c.set_prelude.ensures.ok c.set_prelude.ensures.err
