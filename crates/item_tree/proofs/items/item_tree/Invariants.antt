use Rattle.std.proofs.Common.{drop}
use Rattle.std.specs.Prelude.{sum_by}
use Rattle.item_tree.proofs.Weights.{weight, Reading}
use Rattle.item_tree.proofs.items.item_tree.Given as goal

abbrev pub invariant-loop-number : goal.invariant-loop-number
invariant-loop-number l = Reading l.lexemes l.partners l.top_level l.number l.items.items

abbrev pub decreases-loop-number : goal.decreases-loop-number
decreases-loop-number l = sum_by weight (drop l.number l.items.items)
