use Rattle.std.proofs.Common.{◌≡◌, ◌∙◌, ◌<◌, ◌≤◌, ◌/◌, ◌&&◌, ◌||◌, List, ap, arith, if◌then◌else◌, length, nat_eq}
use Rattle.dm_base.specs.Names.{Name}
use Rattle.dm_retry.specs.Index.{has_place}
use Rattle.dm_retry.specs.Bits.{has}
use Rattle.dm_retry.proofs.KeptLemmas.{kept-push}
use Rattle.dm_maps.specs.Cut.{among}
use Rattle.dm_retry.proofs.worklist.index_one.Goals as goal

pub returns : goal.returns
returns c = λ xs is kept.
    let es = c.args.index.now.entries in
    let x = c.args.import.now in
    let k = c.in_ok-place.place in
    let room : k / 64 < length c.cover.new.self = c.in_ok-cover.ensures.ok in
    let grown : length c.args.dirty.now ≤ length c.cover.new.self = c.cover.ensures.len in
    let same : length c.set.new.self ≡ length c.cover.new.self = c.set.ensures.len in
    kept-push es c.add_names.new.index.entries c.args.dirty.now c.set.new.self xs x k (c.in_ok-place.ensures ∙ is) kept
    (λ n j. c.in_ok-add_names.ensures.ok n j ∙ ap (λ (names : List Name). has_place es n j || (among names n && nat_eq j k)) c.segments.ensures)
    (λ j. c.set.ensures.has j ∙ ap (λ d. if nat_eq j k then d else has c.cover.new.self j) c.is_due.ensures ∙ ap (λ b. if nat_eq j k then x.due else b) (c.cover.ensures.has j))
    (omega arith) (omega arith)
