use Rattle.std.proofs.Common.{◌≡◌, ◌+◌, ◌-◌, ◌≤◌, length, drop}
use Rattle.item_tree.specs.Characters.{is_blank, chars_len}
use Rattle.item_tree.proofs.lexer.characters.blank_end.Given as goal

abbrev pub invariant-loop-i : goal.invariant-loop-i
invariant-loop-i l = record {
  in_range : l.i ≤ length l.text;
  counted : l.i + chars_len is_blank (drop l.i l.text) ≡ chars_len is_blank l.text;
}

abbrev pub decreases-loop-i : goal.decreases-loop-i
decreases-loop-i l = length l.text - l.i
