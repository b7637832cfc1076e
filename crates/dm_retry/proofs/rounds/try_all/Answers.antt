use Rattle.std.proofs.Common.{◌≡◌, ◌∙◌, ap, length, arith}
use Rattle.dm_retry.specs.Rounds.{State}
use Rattle.dm_retry.proofs.RoundLemmas.{length-tries}
use Rattle.dm_retry.proofs.rounds.try_all.Goals as goal

pub try_at-requires : goal.try_at-requires
try_at-requires c =
    let all : length c.loop-i.imports.pending ≡ length c.args.imports.now.pending = ap (λ (s : State). length s.pending) c.loop-i.invariant.state ∙ length-tries c.args.imports.now c.loop-i.i in
    omega (arith, all, c.loop-i.invariant.end)
