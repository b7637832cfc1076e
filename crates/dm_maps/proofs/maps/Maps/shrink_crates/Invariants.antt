use Rattle.std.proofs.Common.{◌≡◌}
use Rattle.dm_maps.proofs.maps.Maps.shrink_crates.Given as goal

-- nothing changes
abbrev pub invariant-loop-k : goal.invariant-loop-k
invariant-loop-k l = l.self ≡ l.fn.self
