use Rattle.std.proofs.Common.{◌≡◌, ◌++◌, drop, map}
use Rattle.dm_scope.specs.Scope.{bound_in}
use Rattle.dm_scope.specs.Sorted.{seen, deref_entry}
use Rattle.dm_scope.proofs.item_scope.ItemScope.paired.Given as goal

-- what is there, with what is left, is all
abbrev pub invariant-loop-name : goal.invariant-loop-name
invariant-loop-name l = map deref_entry l.entries.items ++ map (λ n. (n, bound_in l.self n)) (seen (drop l.name-index l.names)) ≡ map (λ n. (n, bound_in l.self n)) (seen l.names)
