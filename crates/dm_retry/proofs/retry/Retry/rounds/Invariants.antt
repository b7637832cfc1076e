use Rattle.std.proofs.Common.{◌≡◌}
use Rattle.dm_retry.specs.Rounds.{rounds}
use Rattle.dm_retry.proofs.retry.Retry.rounds.Given as goal

abbrev pub invariant-loop-kind : goal.invariant-loop-kind
invariant-loop-kind l = l.self.state ≡ rounds l.kind-index l.fn.self.state
