use Rattle.std.proofs.Common.{◌≡◌}
use Rattle.dm_maps.proofs.builder.WorldBuilder.shrink_scopes.Given as goal

-- nothing changes
abbrev pub invariant-loop-m : goal.invariant-loop-m
invariant-loop-m l = l.self ≡ l.fn.self
