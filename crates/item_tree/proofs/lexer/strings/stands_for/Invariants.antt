use Rattle.std.proofs.Common.{◌≡◌, ◌-◌, length, drop}
use Rattle.std.specs.Str.{bytes_eq}
use Rattle.item_tree.specs.Strings.{value_from}
use Rattle.item_tree.proofs.lexer.strings.stands_for.Given as goal

abbrev pub invariant-loop-at : goal.invariant-loop-at
invariant-loop-at l = bytes_eq (value_from l.is_raw 0 (drop l.at l.contents)) l.rest ≡ bytes_eq (value_from l.is_raw 0 l.contents) l.value

abbrev pub decreases-loop-at : goal.decreases-loop-at
decreases-loop-at l = length l.contents - l.at
