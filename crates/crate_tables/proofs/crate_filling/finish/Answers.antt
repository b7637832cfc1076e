use Rattle.crate_tables.proofs.KeptLemmas.{kept-further, kept-grown, kept-textual}
use Rattle.crate_tables.proofs.crate_filling.finish.Goals as goal

pub returns-clause-stays : goal.returns-clause-stays
returns-clause-stays c =
    kept-further _ _ _ (kept-grown _ _ c.in_ok-set_preludes.ensures.grown)
    (kept-textual c.set_preludes.new.builder c.list_blocks.new.builder c.list_blocks.ensures.stays c.list_blocks.ensures.shown)
