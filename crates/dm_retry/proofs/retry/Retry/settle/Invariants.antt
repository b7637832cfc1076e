use Rattle.std.proofs.Common.{◌≡◌}
use Rattle.dm_retry.specs.Rounds.{rounds}
use Rattle.dm_retry.specs.Settling.{AllBring}
use Rattle.dm_retry.proofs.retry.Retry.settle.Given as goal

abbrev pub invariant-loop-round : goal.invariant-loop-round
invariant-loop-round l = record {
  state : l.self.state ≡ rounds l._round l.fn.self.state;
  bring : AllBring l.fn.self.state l._round;
}
