use Rattle.crate_tables.proofs.GrownLemmas.{grown-further}
use Rattle.crate_tables.proofs.crate_filling.prepare.Goals as goal
use Rattle.dm_maps.specs.declared.check.held.HeldId.TheVariants as held

pub set_attributes-requires : goal.set_attributes-requires
set_attributes-requires c = c.add_externs.ensures.grown.known (held.Crate c.args.krate) c.requires

pub returns-in_err-set_attributes-clause-grown : goal.returns-in_err-set_attributes-clause-grown
returns-in_err-set_attributes-clause-grown c = grown-further _ _ _ c.in_ok-add_externs.ensures.grown c.in_err-set_attributes.ensures.grown

pub returns-clause-grown : goal.returns-clause-grown
returns-clause-grown c = grown-further _ _ _ c.in_ok-add_externs.ensures.grown c.in_ok-set_attributes.ensures.grown
