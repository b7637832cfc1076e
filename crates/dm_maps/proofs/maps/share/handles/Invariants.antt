use Rattle.std.proofs.Common.{◌≡◌, length, All}
use Rattle.dm_maps.proofs.maps.share.handles.Given as goal

abbrev pub invariant-loop : goal.invariant-loop
invariant-loop l = (length l.handles.items ≡ l.counter) × All (λ r. r.value ≡ l.shared.value) l.handles.items
