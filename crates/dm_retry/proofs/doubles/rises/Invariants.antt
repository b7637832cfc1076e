use Rattle.dm_retry.proofs.DoubleLemmas.{Walked}
use Rattle.dm_retry.proofs.doubles.rises.Given as goal

abbrev pub invariant-loop-k : goal.invariant-loop-k
invariant-loop-k l = Walked l.pendings l.k l.last
