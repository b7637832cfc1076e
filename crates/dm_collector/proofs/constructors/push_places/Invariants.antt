use Rattle.std.proofs.Common.{◌≡◌, ◌++◌, drop}
use Rattle.std.specs.List.{flat_map}
use Rattle.dm_collector.specs.Constructors.{of_place}
use Rattle.dm_collector.proofs.constructors.push_places.Given as goal

abbrev pub invariant-loop-place : goal.invariant-loop-place
invariant-loop-place l =
    l.found.items ++ flat_map (of_place l.world l.files l.krate l.options l.list) (drop l.place-index l.places)
    ≡ l.fn.found.items ++ flat_map (of_place l.world l.files l.krate l.options l.list) l.places
