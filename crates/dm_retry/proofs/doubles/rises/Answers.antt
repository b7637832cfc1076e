use Rattle.std.proofs.Common.{arith}
use Rattle.dm_retry.proofs.DoubleLemmas.{no-double, step}
use Rattle.dm_retry.proofs.doubles.rises.Goals as goal

pub loop-k-preserved : goal.loop-k-preserved
loop-k-preserved c = step c.args.pendings.now c.loop-k.k c.loop-k.last c.in-Some.number c.loop-k.invariant c.in-Some.ensures

pub returns : goal.returns
returns c = λ _. no-double c.args.pendings.now c.loop-k.k c.loop-k.last (omega (arith, c.loop-k-test.false)) c.loop-k.invariant
