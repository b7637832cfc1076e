use Rattle.crate_tables.proofs.FillingLemmas.{known-on}
use Rattle.crate_tables.proofs.FitAssoc.{assocs-check}
use Rattle.crate_tables.proofs.KeptLemmas.{kept-grown}
use Rattle.crate_tables.proofs.assoc_items.filling.add_assoc_items.Goals as goal

pub returns-in_err-add_all-clause-known : goal.returns-in_err-add_all-clause-known
returns-in_err-add_all-clause-known c = λ t known.
    known-on c.args.builder.now c.add_all.new.builder t (kept-grown c.args.builder.now c.add_all.new.builder c.in_err-add_all.ensures.grown) known

pub returns-clause-known : goal.returns-clause-known
returns-clause-known c = λ t known.
    known-on c.args.builder.now c.add_all.new.builder t (kept-grown c.args.builder.now c.add_all.new.builder c.in_ok-add_all.ensures.grown) known

pub returns-clause-checked : goal.returns-clause-checked
returns-clause-checked c = λ checked defs.
    assocs-check c.args.files.now c.args.lists.now c.args.tables.now _ _ c.in_ok-add_all.ensures.added checked defs
