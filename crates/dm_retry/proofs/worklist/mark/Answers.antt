use Rattle.std.proofs.Common.{◌≡◌, ◌∙◌, ◌<◌, List, Some, ap, arith, length, slice_get, slice_set, subst, sym}
use Rattle.std.proofs.lemmas.Option.{slice_get-get_or}
use Rattle.dm_retry.specs.Index.{Marks}
use Rattle.dm_retry.proofs.WorklistLemmas.{marked_at-past, marks-marked_at, set-marked_at}
use Rattle.dm_retry.specs.Rounds.{Pending, marked_at}
use Rattle.dm_retry.proofs.worklist.mark.Goals as goal

pub returns-then-k-len-clause-marks : goal.returns-then-k-len-clause-marks
returns-then-k-len-clause-marks c =
    let xs = c.args.imports.now.items in
    let k = c.args.k in
    let d = c.args.is_dirty in
    let x = c.index_mut.result.now in
    let within : k < length xs = omega (arith, c.len.ensures) in
    let at : slice_get xs k ≡ Some x = slice_get-get_or xs k x within ∙ ap Some (sym c.index_mut.ensures.value) in
    let put : slice_set xs k c.set_due.new.self ≡ marked_at xs k d = ap (slice_set xs k) c.set_due.ensures ∙ set-marked_at xs k d x at in
    subst (λ (l : List Pending). Marks c.set.new.self l) (sym put)
    (marks-marked_at c.args.dirty.now c.set.new.self xs k d within c.requires c.set.ensures.has c.set.ensures.len)

pub returns-else-k-len-clause-imports : goal.returns-else-k-len-clause-imports
returns-else-k-len-clause-imports c = sym (marked_at-past c.args.imports.now.items c.args.k c.args.is_dirty (omega (arith, c.len.ensures)))
