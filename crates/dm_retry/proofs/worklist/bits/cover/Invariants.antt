use Rattle.std.proofs.Common.{◌≡◌, ◌≤◌, ◌-◌, ◌+◌, ℕ, max, length}
use Rattle.dm_retry.specs.Bits.{word}
use Rattle.dm_retry.proofs.worklist.bits.cover.Given as goal

abbrev pub invariant-words : goal.invariant-words
invariant-words l = record {
  same : (i : ℕ) → word l.words.items i ≡ word l.initial.words.items i;
  len : length l.initial.words.items ≤ length l.words.items;
  most : length l.words.items ≤ max (length l.initial.words.items) (l.j + 1);
}

abbrev pub decreases-words : goal.decreases-words
decreases-words l = l.j + 1 - length l.words.items
