use Rattle.std.proofs.Common.{◌≡◌, ◌++◌, drop, map}
use Rattle.dm_scope.specs.Sorted.{deref_entry, deref_resolution, named_resolution}
use Rattle.dm_scope.proofs.item_scope.sorted.add_entries.Given as goal

-- what is there, with what is left, is what the call began with, with all
abbrev pub invariant-loop-name : goal.invariant-loop-name
invariant-loop-name l =
    map deref_resolution l.resolutions.items ++ map named_resolution (map deref_entry (drop l.name-index l.entries))
    ≡ map deref_resolution l.fn.resolutions.items ++ map named_resolution (map deref_entry l.entries)
