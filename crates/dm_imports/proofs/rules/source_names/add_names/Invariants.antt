use Rattle.std.proofs.Common.{◌≡◌, ◌++◌, drop, map}
use Rattle.dm_scope.specs.Sorted.{deref_entry, seen}
use Rattle.dm_imports.proofs.rules.source_names.add_names.Given as goal

-- what is there, with what is left, is what the call began with, with all
abbrev pub invariant-loop-name : goal.invariant-loop-name
invariant-loop-name l =
    seen l.names.items ++ map (λ e. e.0) (map deref_entry (drop l.name-index l.entries))
    ≡ seen l.fn.names.items ++ map (λ e. e.0) (map deref_entry l.entries)
