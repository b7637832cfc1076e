use Rattle.std.proofs.Common.{◌≡◌, ◌++◌, ◌≤◌, ◌-◌, true, List, length, drop}
use Rattle.item_tree.specs.Tokens.{are_tokens}
use Rattle.item_tree.specs.declared.lexer.token.Token.{Token}
use Rattle.item_tree.proofs.lexer.lex.Given as goal

abbrev pub invariant-loop-at : goal.invariant-loop-at
invariant-loop-at l = record {
  in_range : l.at ≤ length l.text;
  checked : (ts : List Token) → are_tokens l.edition true (l.tokens.items ++ ts) l.text ≡ are_tokens l.edition l.at_start ts (drop l.at l.text);
}

abbrev pub decreases-loop-at : goal.decreases-loop-at
decreases-loop-at l = length l.text - l.at
