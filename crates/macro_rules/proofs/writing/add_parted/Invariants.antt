use Rattle.std.proofs.Common.{◌≡◌, ◌-◌, ◌≤◌, ◌++◌, length, drop}
use Rattle.macro_rules.specs.Writings.{parted}
use Rattle.macro_rules.proofs.writing.add_parted.Given as goal

abbrev pub invariant-loop-at : goal.invariant-loop-at
invariant-loop-at l = record {
  within : l.at ≤ length l.piece;
  added : l.tokens.items ++ parted (drop l.at l.piece) ≡ l.fn.tokens.items ++ parted l.piece;
}

abbrev pub decreases-loop-at : goal.decreases-loop-at
decreases-loop-at l = length l.piece - l.at
