use Rattle.std.proofs.Common.{◌≡◌, ◌++◌, ℕ, List, take, false}
use Rattle.item_tree.specs.Shapes.{past_quote}
use Rattle.item_tree.proofs.items.bodies.quote_end.Given as goal

abbrev pub invariant-loop-i : goal.invariant-loop-i
invariant-loop-i l = (q : List ℕ) → past_quote l.quote false (take l.i l.text ++ q) ≡ past_quote l.quote l.escaped q
