use Rattle.std.proofs.Common.{rules, ◌≡◌, ◌∙◌, ◌++◌, ap, inl, inr, length, List, ℕ, sym}
use Rattle.std.proofs.lemmas.List.{append-nil}
use Rattle.std.specs.Prelude.{◌⊎◌}
use Rattle.dm_collector.specs.UnresolvedNames.{unresolved_from}
use Rattle.dm_imports.specs.Tables.{of_tables}
use Rattle.dm_collector.proofs.ListedLemmas.{found-more, none-left}
use Rattle.dm_collector.proofs.unresolved_names.unresolved_imports.Goals as goal

pub loop-place-init : goal.loop-place-init
loop-place-init c = search rules

pub loop-place-preserved-in-Continue-1 : goal.loop-place-preserved-in-Continue-1
loop-place-preserved-in-Continue-1 c =
    let d = of_tables c.args.maps.now in
    let next = c.next.new.self in
    let was = c.loop-place.place-iterator in
    ap (λ (l : List ℕ). l ++ unresolved_from d next.count next.iter.a.rest.now next.iter.b.rest.now) c.in_ok-push.ensures.items
    ∙ found-more d was.count next.count c.in-Some.place c.in-Some.meant.now c.in-Some.import.now next.iter.a.rest.now was.iter.a.rest.now next.iter.b.rest.now was.iter.b.rest.now c.loop-place.places.items
    (search rules) (search rules) (search rules) (search rules) (search rules)
    ∙ c.loop-place.invariant

pub loop-place-preserved : goal.loop-place-preserved
loop-place-preserved c = search rules

pub returns : goal.returns
returns c =
    let d = of_tables c.args.maps.now in
    let was = c.loop-place.place-iterator in
    let had = c.loop-place.places.items in
    let over : (length was.iter.a.rest.now ≡ 0) ⊎ (length was.iter.b.rest.now ≡ 0) =
    elim c.in-None.ensures.steps.0 as (λ x. (length was.iter.a.rest.now ≡ 0) ⊎ (length was.iter.b.rest.now ≡ 0)) [
      | inl x ↦ inl x.1.0
      | inr x ↦ inr x.1.0
    ] in
    sym (append-nil had)
    ∙ ap (λ (l : List ℕ). had ++ l) (sym (none-left d was.count was.iter.a.rest.now was.iter.b.rest.now over))
    ∙ c.loop-place.invariant
