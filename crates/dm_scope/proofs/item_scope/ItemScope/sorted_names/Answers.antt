use Rattle.std.proofs.Common.{◌∙◌, ◌++◌, ap, subst}
use Rattle.std.proofs.lemmas.Iterator.{YieldsList-from_slice}
use Rattle.std.proofs.lemmas.Iterator.Consumers.{YieldsList-from_chain}
use Rattle.itertools.proofs.AdaptorLemmas.{items_from_whole_run}
use Rattle.dm_scope.specs.Sorted.{AreInOrder, names_of, seen}
use Rattle.dm_scope.proofs.SortLemmas.{YieldsList-same}
use Rattle.dm_scope.proofs.item_scope.ItemScope.sorted_names.Goals as goal

pub returns : goal.returns
returns c =
    let two = YieldsList-from_chain {s = c.chain.result} (YieldsList-from_slice c.names.result.now cc) (YieldsList-from_slice c.names-2.result.now cc) c.chain.ensures.first_done c.chain.ensures.second_done in
    let three = YieldsList-from_chain {s = c.chain-bound.result} (YieldsList-same c.chain-bound.ensures.first two) (YieldsList-from_slice c.names-3.result.now cc) c.chain-bound.ensures.first_done c.chain-bound.ensures.second_done in
    let all = YieldsList-from_chain {s = c.chain-2.result} (YieldsList-same c.chain-2.ensures.first three) (YieldsList-from_slice c.unresolved.result.now cc) c.chain-2.ensures.first_done c.chain-2.ensures.second_done in
    let run = c.in_ok-sorted.ensures in
    subst (AreInOrder (seen c.in_ok-sorted.sorted.items))
    (items_from_whole_run all run.0 run.1 run.2 ∙ (λ i. c.names.ensures i ++ c.names-2.ensures i ++ c.names-3.ensures i ++ c.unresolved.ensures i) ∙ ap names_of c.self.view_is)
    run.3
