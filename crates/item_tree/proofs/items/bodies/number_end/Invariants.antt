use Rattle.std.proofs.Common.{◌≡◌, ◌+◌, ◌-◌, ◌≤◌, length, drop}
use Rattle.item_tree.specs.Numbers.{number_len}
use Rattle.item_tree.specs.declared.items.bodies.NumberPart.TheVariants.{Digits}
use Rattle.item_tree.proofs.items.bodies.number_end.Given as goal

abbrev pub invariant-loop-i : goal.invariant-loop-i
invariant-loop-i l = record {
  in_range : l.i ≤ length l.text;
  counted : l.i + number_len l.part (drop l.i l.text) ≡ number_len Digits l.text;
}

abbrev pub decreases-loop-i : goal.decreases-loop-i
decreases-loop-i l = length l.text - l.i
