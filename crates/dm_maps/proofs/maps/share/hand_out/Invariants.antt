use Rattle.std.proofs.Common.{◌≡◌, ◌≤◌, ◌<◌, ◌+◌, ℕ, Some, length, map, slice_get, All}
use Rattle.dm_maps.proofs.Ids.{BlockId}
use Rattle.dm_maps.specs.BuildCrateData.{map_with_shared}
use Rattle.dm_maps.proofs.SharedMaps.{Stays, given-twice}
use Rattle.dm_maps.proofs.maps.share.hand_out.Given as goal

-- with the data for each, the maps are what they would have been; those of the blocks so far have it
abbrev pub invariant-loop-b : goal.invariant-loop-b
invariant-loop-b l = record {
  same : map (map_with_shared l.krate l.new) l.maps.items ≡ map (map_with_shared l.krate l.new) l.initial.maps.items;
  done : (i : ℕ) (b : BlockId) → i < l.b-index → slice_get l.own i ≡ Some b → Stays (map_with_shared l.krate l.new) (given-twice l.krate l.new) l.maps.items b.0;
  enough : length l.own ≤ length l.handles.items + l.b-index;
  handles : All (λ r. r.value ≡ l.new) l.handles.items;
}
