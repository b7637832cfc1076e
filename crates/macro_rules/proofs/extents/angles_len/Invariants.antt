use Rattle.std.proofs.Common.{◌≡◌, ◌+◌, ◌-◌, ◌≤◌, length, drop}
use Rattle.macro_rules.specs.Extents.{angles_len}
use Rattle.macro_rules.proofs.extents.angles_len.Given as goal

abbrev pub invariant-loop-at : goal.invariant-loop-at
invariant-loop-at l = record {
  within : l.at ≤ length l.tokens;
  small : l.groups ≤ l.at;
  few : l.angles ≤ l.at + l.at;
  counted : l.at + angles_len l.groups l.angles (drop l.at l.tokens) ≡ angles_len 0 0 l.tokens;
}

abbrev pub decreases-loop-at : goal.decreases-loop-at
decreases-loop-at l = length l.tokens - l.at
