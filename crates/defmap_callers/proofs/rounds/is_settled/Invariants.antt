use Rattle.std.proofs.Common.{ℕ, ◌<◌}
use Rattle.dm_retry.specs.Retries.{RestsAt}
use Rattle.defmap_callers.proofs.rounds.is_settled.Given as goal

abbrev pub invariant-loop-i : goal.invariant-loop-i
invariant-loop-i l = (k : ℕ) → k < l.i → RestsAt l.retry.state k
