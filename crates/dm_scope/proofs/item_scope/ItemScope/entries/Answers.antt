use Rattle.std.proofs.Common.{ap, map, ◌∙◌}
use Rattle.dm_scope.specs.Scope.{bound_in}
use Rattle.dm_scope.specs.Sorted.{seen, deref_entry}
use Rattle.dm_scope.proofs.SortLemmas.{are_entries}
use Rattle.dm_scope.proofs.item_scope.ItemScope.entries.Goals as goal

pub returns : goal.returns
returns c =
    are_entries c.args.self.now (seen c.in_ok-names.names.items) (map deref_entry c.in_ok-entries.entries.items) c.in_ok-names.ensures
    (c.in_ok-entries.ensures ∙ ap (λ ns. map (λ n. (n, bound_in c.args.self.now n)) (seen ns)) c.as_slice.ensures.value)
