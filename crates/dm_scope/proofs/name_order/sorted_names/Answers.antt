use Rattle.dm_scope.proofs.SortLemmas.{names_in_order}
use Rattle.dm_scope.proofs.name_order.sorted_names.Goals as goal

pub returns : goal.returns
returns g c =
    let run = c.in_ok-sorted.ensures in
    (run.0, run.1, run.2, names_in_order c.in_ok-sorted.sorted.items run.0.items run.3)
