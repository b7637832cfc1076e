use Rattle.std.proofs.Common.{◌≡◌, ◌≤◌, ◌-◌, ℕ, false, length}
use Rattle.dm_retry.specs.Rounds.{after, any_would_write, due_turns, is_due}
use Rattle.dm_retry.specs.Retries.{NoneDue, RestsAt}
use Rattle.dm_retry.proofs.rounds.try_due.Given as goal

abbrev pub invariant-due : goal.invariant-due
invariant-due l = record {
  within : l.from ≤ length l.fn.imports.pending;
  state : l.imports ≡ after l.fn.imports l.from;
  answer : l.written ≡ any_would_write l.fn.imports l.from;
  tries : l.tries ≡ due_turns l.fn.imports l.from;
  few : l.tries ≤ l.from;
  idle : l.tries ≡ 0 → l.written ≡ false;
  rests : (k : ℕ) → is_due l.imports k ≡ false → RestsAt l.imports k;
  untouched : NoneDue l.fn.imports → l.imports ≡ l.fn.imports;
  untried : NoneDue l.fn.imports → l.tries ≡ 0;
}

abbrev pub decreases-due : goal.decreases-due
decreases-due l = length l.fn.imports.pending - l.from
