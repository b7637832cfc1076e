use Rattle.std.proofs.Common.{◌≡◌, length}
use Rattle.dm_retry.specs.Rounds.{after, any_would_write}
use Rattle.dm_retry.proofs.rounds.try_all.Given as goal

abbrev pub invariant-loop-i : goal.invariant-loop-i
invariant-loop-i l = record {
  state : l.imports ≡ after l.fn.imports l.i;
  answer : l.written ≡ any_would_write l.fn.imports l.i;
  tries : l.tries ≡ l.i;
  end : l.i-end ≡ length l.fn.imports.pending;
}
