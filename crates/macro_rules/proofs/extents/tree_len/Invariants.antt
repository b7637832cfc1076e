use Rattle.std.proofs.Common.{◌≡◌, ◌+◌, ◌-◌, ◌≤◌, length, drop}
use Rattle.macro_rules.specs.Extents.{tree_len}
use Rattle.macro_rules.proofs.extents.tree_len.Given as goal

abbrev pub invariant-loop-at : goal.invariant-loop-at
invariant-loop-at l = record {
  within : l.at ≤ length l.tokens;
  small : l.depth ≤ l.at;
  counted : l.at + tree_len l.depth (drop l.at l.tokens) ≡ tree_len 0 l.tokens;
}

abbrev pub decreases-loop-at : goal.decreases-loop-at
decreases-loop-at l = length l.tokens - l.at
