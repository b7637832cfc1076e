use Rattle.dm_maps.proofs.MoveLemmas.{IsOnTheWay}
use Rattle.dm_maps.proofs.ladders.moved.Given as goal

abbrev pub invariant-loop-k : goal.invariant-loop-k
invariant-loop-k l = IsOnTheWay l.ladders l.m l.deeper l.at l.rest l.moves l.k
