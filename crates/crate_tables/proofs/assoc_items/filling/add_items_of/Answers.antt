use Rattle.crate_tables.proofs.ShortLemmas.{passed}
use Rattle.std.proofs.Common.{inl}
use Rattle.crate_tables.proofs.MoreSteps.{short-for}
use Rattle.crate_tables.proofs.assoc_items.filling.add_items_of.Goals as goal

pub returns-in_err-containers-clause-fault : goal.returns-in_err-containers-clause-fault
returns-in_err-containers-clause-fault c = passed c.from_residual.result c.in_err-containers.field-0.0 _ c.from_residual.ensures.1 (short-for _ _ inl _ c.in_err-containers.ensures.fault)
