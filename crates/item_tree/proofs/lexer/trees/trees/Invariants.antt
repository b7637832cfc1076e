use Rattle.std.proofs.Common.{◌≡◌, ◌++◌, ◌-◌, drop}
use Rattle.item_tree.specs.Trees.{trees_from, trees_of}
use Rattle.item_tree.proofs.lexer.trees.trees.Given as goal

abbrev pub invariant-loop-at : goal.invariant-loop-at
invariant-loop-at l = record {
  read : l.trees.items ++ trees_from l.partners l.end 0 l.at (drop l.at l.lexemes) ≡ trees_of l.lexemes l.partners l.from l.end;
}

abbrev pub decreases-loop-at : goal.decreases-loop-at
decreases-loop-at l = l.end - l.at
