use Rattle.std.proofs.Common.{◌∙◌, ap, arith, get_or, slice_set, true}
use Rattle.std.proofs.lemmas.List.{get_or_default}
use Rattle.std.proofs.lemmas.List.Edits.{map_over_more}
use Rattle.dm_retry.proofs.WorklistLemmas.{each-done}
use Rattle.dm_retry.specs.Rounds.{marked}
use Rattle.dm_retry.proofs.worklist.mark_all_of.Goals as goal

pub loop-import-preserved : goal.loop-import-preserved
loop-import-preserved c =
    let k = c.loop-import.import-index in
    let xs = c.loop-import.imports in
    let x = get_or xs k c.import-item.result in
    ap (slice_set xs k) c.set_due.ensures
    ∙ map_over_more (marked true) c.args.imports.now xs k x c.loop-import-test.true c.loop-import.invariant (get_or_default xs k c.import-item.result x (omega arith))

pub returns : goal.returns
returns c = c.loop-import.invariant ∙ each-done (marked true) c.loop-import.import-index c.args.imports.now c.loop-import-test.false
