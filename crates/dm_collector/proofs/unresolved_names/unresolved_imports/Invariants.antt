use Rattle.std.proofs.Common.{◌≡◌, ◌++◌}
use Rattle.dm_collector.specs.UnresolvedNames.{unresolved_from}
use Rattle.dm_imports.specs.Tables.{of_tables}
use Rattle.dm_collector.proofs.unresolved_names.unresolved_imports.Given as goal

-- the places found yet, with those of what is left, are all
abbrev pub invariant-loop-place : goal.invariant-loop-place
invariant-loop-place l =
    l.places.items ++ unresolved_from (of_tables l.fn.maps) l.place-iterator.count l.place-iterator.iter.a.rest.now l.place-iterator.iter.b.rest.now
    ≡ unresolved_from (of_tables l.fn.maps) 0 l.fn.meanings l.fn.maps.imports
