use Rattle.std.proofs.Common.{◌≡◌}
use Rattle.dm_maps.proofs.maps.Maps.shrink_blocks.Given as goal

-- nothing changes
abbrev pub invariant-loop-b : goal.invariant-loop-b
invariant-loop-b l = l.self ≡ l.fn.self
