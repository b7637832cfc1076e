use Rattle.crate_tables.proofs.ShortLemmas.{macro-short, passed}
use Rattle.crate_tables.proofs.crate_macros.add_as.Goals as goal

pub returns-in_err-id-clause-fault : goal.returns-in_err-id-clause-fault
returns-in_err-id-clause-fault c = passed c.from_residual.result c.in_err-id.field-0.0 _ c.from_residual.ensures.1 (macro-short _ c.args.builder.now c.args.m c.args.loc _ c.requires.home c.in_err-id.ensures.fault)
