use Rattle.std.proofs.Common.{◌≡◌, ◌∙◌, ◌<◌, ◌≤◌, ◌/◌, ◌&&◌, ◌||◌, List, ap, arith, if◌then◌else◌, ℕ, length, nat_eq, sym, true}
use Rattle.dm_base.specs.Names.{Name}
use Rattle.dm_retry.specs.Index.{has_place}
use Rattle.dm_retry.specs.Bits.{has}
use Rattle.dm_retry.proofs.KeptLemmas.{kept-push}
use Rattle.dm_maps.specs.Cut.{among}
use Rattle.dm_retry.specs.Rounds.{Pending, marked}
use Rattle.dm_retry.proofs.worklist.grow.enter_last.Goals as goal

pub returns-clause-ok : goal.returns-clause-ok
returns-clause-ok c =
    let es = c.args.index.now.entries in
    let x = c.args.import.now in
    let k = c.in_ok-place.place in
    let room : k / 64 < length c.cover.new.self = c.in_ok-cover.ensures.ok in
    let grown : length c.args.dirty.now ≤ length c.cover.new.self = c.cover.ensures.len in
    let same : length c.insert.new.self ≡ length c.cover.new.self = c.insert.ensures.len in
    let marks : (j : ℕ) → (if nat_eq j k then true else has c.cover.new.self j) ≡ (if nat_eq j k then true else has c.args.dirty.now j) =
    λ j i. if nat_eq j k then true else c.cover.ensures.has j i in
    kept-push es c.add_path.new.index.entries c.args.dirty.now c.insert.new.self c.args.imports.now (marked true x) k c.in_ok-place.ensures c.requires
    (λ n j. c.in_ok-add_path.ensures.ok n j ∙ ap (λ (names : List Name). has_place es n j || (among names n && nat_eq j k)) c.segments.ensures)
    (λ j. c.insert.ensures.has j ∙ marks j)
    (omega arith) (omega arith)
