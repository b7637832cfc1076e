use Rattle.std.proofs.Common.{◌≡◌, ◌-◌, length, drop}
use Rattle.macro_rules.specs.Readings.{all_read, nothing_read}
use Rattle.macro_rules.proofs.reading.dollars.read_rows.Given as goal

abbrev pub invariant-loop-at : goal.invariant-loop-at
invariant-loop-at l = all_read l.part l.bytes l.matcher (drop l.at l.tokens) l.reading ≡ all_read l.part l.bytes l.matcher l.tokens nothing_read

abbrev pub decreases-loop-at : goal.decreases-loop-at
decreases-loop-at l = length l.tokens - l.at
