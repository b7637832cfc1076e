use Rattle.crate_tables.specs.NewModules.{in_edition}
use Rattle.crate_tables.proofs.ShortLemmas.{crate-short, passed}
use Rattle.crate_tables.proofs.crate_roots.add_root.Goals as goal

pub returns-in_err-add_crate-clause-fault : goal.returns-in_err-add_crate-clause-fault
returns-in_err-add_crate-clause-fault c = passed c.from_residual.result c.in_err-add_crate.field-0.0 _ c.from_residual.ensures.1 (crate-short _ c.args.builder.now c.args.krate.now.edition (in_edition c.args.krate.now.edition c.args.krate.now.root_file_id) _ c.in_err-add_crate.ensures.fault)
