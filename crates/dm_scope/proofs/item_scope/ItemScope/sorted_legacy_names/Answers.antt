use Rattle.std.proofs.Common.{◌≡◌, ◌∙◌, ap, map, rules, subst, sym}
use Rattle.dm_scope.specs.Sorted.{AreInOrder, seen}
use Rattle.dm_scope.proofs.TableListLemmas.{keys_of_lists}
use Rattle.dm_scope.proofs.item_scope.ItemScope.sorted_legacy_names.Goals as goal

pub returns : goal.returns
returns c =
    let listed : AreInOrder (seen c.in_ok-sorted.sorted.items) c.as_slice-names.result.now = search rules in
    subst (AreInOrder (seen c.in_ok-sorted.sorted.items))
    (c.as_slice-names.ensures ∙ c.keys.ensures.rest ∙ sym (keys_of_lists c.legacy_macros.result) ∙ ap (map (λ e. e.0)) c.legacy_macros.ensures ∙ ap (λ s. map (λ e. e.0) s.legacy_macros) c.self.view_is)
    listed
