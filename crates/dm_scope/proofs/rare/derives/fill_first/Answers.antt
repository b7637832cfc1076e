use Rattle.std.proofs.Common.{◌<◌, ◌∙◌, sym, ap, map, length, subst, slice_set, slice_index_or}
use Rattle.dm_scope.specs.Derives.{derive_of, with_slot, has_id}
use Rattle.dm_scope.proofs.DeriveLemmas.{position-some, position-none, find_derive-first, fill_first-first, fill_first-none}
use Rattle.dm_scope.proofs.rare.derives.fill_first.Goals as goal

pub fill-requires : goal.fill-requires
fill-requires c =
    let at = position-some (has_id c.args.id) c.args.derives.now c.in-Some.i (sym c.place_of.ensures ∙ c.in-Some.is) in
    subst (λ j. c.args.idx < length (slice_index_or c.args.derives.now j c.index-derives-i.result).derive_call_ids.items) (sym at.0)
    (c.requires _ (find_derive-first c.args.id c.index-derives-i.result c.args.derives.now at.1))

pub returns-in-Some : goal.returns-in-Some
returns-in-Some c =
    let at = position-some (has_id c.args.id) c.args.derives.now c.in-Some.i (sym c.place_of.ensures ∙ c.in-Some.is) in
    (λ k. map derive_of (slice_set c.args.derives.now (at.0 k) c.fill.new.derive))
    ∙ fill_first-first c.args.id c.index-derives-i.result c.args.idx c.args.call c.args.derives.now c.fill.new.derive at.1
    (c.fill.ensures ∙ ap (λ j. with_slot c.args.idx c.args.call (derive_of (slice_index_or c.args.derives.now j c.index-derives-i.result))) at.0)

pub returns-in_default : goal.returns-in_default
returns-in_default c =
    sym (fill_first-none c.args.id c.args.idx c.args.call c.args.derives.now (position-none (has_id c.args.id) c.args.derives.now (sym c.place_of.ensures ∙ c.in_default.is)))
