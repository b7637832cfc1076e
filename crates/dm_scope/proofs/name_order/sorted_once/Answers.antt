use Rattle.std.proofs.Common.{◌≡◌, ◌∙◌, ap, map-id, refl, subst, sym}
use Rattle.std.specs.List.{dedup}
use Rattle.std.specs.Vec.Iter.{into_iter_items}
use Rattle.std.proofs.lemmas.Iterator.Adapters.{YieldsList-from_vec}
use Rattle.std.proofs.lemmas.List.Folds.{list_any-from_Any}
use Rattle.std.proofs.lemmas.List.Kept.{Any-dedup, Contains-from_dedup, IsStrictlySortedBy-dedup}
use Rattle.std.proofs.lemmas.List.Sorted.{IsPermutation-sym, Contains-permutation}
use Rattle.itertools.proofs.AdaptorLemmas.{items_from_whole_run}
use Rattle.dm_scope.specs.Sorted.{AreSortedOnce}
use Rattle.dm_scope.proofs.name_order.sorted_once.Goals as goal

pub returns : goal.returns
returns g c =
    let run = c.in_ok-sorted.ensures.sorted in
    let once = c.in_ok-once.ensures.runs in
    let behind = c.dedup.ensures.runs once.0 once.0.seen once.1 in
    let eq = g.T.PartialEq.eq in
    let sorted = into_iter_items c.in_ok-sorted.sorted in
    let road = YieldsList-from_vec sorted refl c.in_ok-sorted.ensures.len in
    let read : behind.0.items ≡ sorted = sym (map-id behind.0.items) ∙ items_from_whole_run road behind.0 behind.1 (behind.2.0 once.2) in
    let kept : c.in_ok-once.once.items ≡ dedup eq sorted = once.3 ∙ behind.2.1 once.2 ∙ ap (dedup (λ x k. eq k x)) read ∙ ap (λ same. dedup same sorted) (λ i x k. g.met.T.Eq.laws.symm k x i) in (
      run.0,
      run.1,
      run.2,
      subst (λ l. AreSortedOnce g.T.Ord.cmp eq l run.0.items) (sym kept)
          (record {
            sorted = IsStrictlySortedBy-dedup g.met.T.Ord.total g.met.T.Ord.matches_eq sorted run.3.1;
            of_all = λ x h. Contains-permutation _ _ x (IsPermutation-sym _ _ run.3.0) (Contains-from_dedup eq sorted x h);
            has_each = λ x h. list_any-from_Any (eq x) (dedup eq sorted) (Any-dedup g.met.T.Eq.laws sorted x (Contains-permutation _ _ x run.3.0 h));
          }),
    )
