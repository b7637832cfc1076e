use Rattle.std.proofs.Common.{◌≡◌, ◌≤◌, ◌<◌, ◌-◌, ◌/◌, ℕ, false, length}
use Rattle.dm_retry.specs.Bits.{has}
use Rattle.dm_retry.proofs.worklist.bits.first.Given as goal

abbrev pub invariant-words : goal.invariant-words
invariant-words l = record { after : l.from ≤ l.at; none : (k : ℕ) → l.from ≤ k → k < l.at → has l.words k ≡ false }

abbrev pub decreases-words : goal.decreases-words
decreases-words l = length l.words - l.at / 64
