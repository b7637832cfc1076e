use Rattle.std.proofs.Common.{take}
use Rattle.dm_retry.specs.Index.{IsKept}
use Rattle.dm_retry.proofs.worklist.built.Given as goal

abbrev pub invariant-loop-k : goal.invariant-loop-k
invariant-loop-k l = IsKept l.index.entries l.dirty (take l.k l.imports)
