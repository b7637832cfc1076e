use Rattle.std.proofs.Common.{◌≡◌, ◌++◌, ◌-◌, length, drop}
use Rattle.item_tree.specs.Strings.{value_from}
use Rattle.item_tree.proofs.lexer.strings.value_of.Given as goal

abbrev pub invariant-loop-at : goal.invariant-loop-at
invariant-loop-at l = l.value.items ++ value_from l.is_raw 0 (drop l.at l.contents) ≡ value_from l.is_raw 0 l.contents

abbrev pub decreases-loop-at : goal.decreases-loop-at
decreases-loop-at l = length l.contents - l.at
