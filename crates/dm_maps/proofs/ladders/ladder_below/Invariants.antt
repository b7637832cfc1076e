use Rattle.dm_maps.proofs.FillLemmas.{IsFilled}
use Rattle.dm_maps.proofs.ladders.ladder_below.Given as goal

abbrev pub invariant-loop-k : goal.invariant-loop-k
invariant-loop-k l = IsFilled l.ladders l.c l.entries l.k
