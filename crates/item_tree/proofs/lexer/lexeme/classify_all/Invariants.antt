use Rattle.std.proofs.Common.{◌≡◌, ◌+◌, ◌++◌, length, drop}
use Rattle.std.specs.Prelude.{sum_by}
use Rattle.item_tree.specs.Lexemes.{lexemes_of}
use Rattle.item_tree.specs.declared.lexer.token.Token.{Token}
use Rattle.item_tree.proofs.lexer.lexeme.classify_all.Given as goal

abbrev pub invariant-loop-token : goal.invariant-loop-token
invariant-loop-token l = record {
  within : l.start + sum_by (λ (t : Token). t.len) (drop l.token-index l.tokens) ≡ length l.text;
  read : l.lexemes.items ++ lexemes_of l.edition l.start (drop l.token-index l.tokens) (drop l.start l.text) ≡ lexemes_of l.edition 0 l.tokens l.text;
}
