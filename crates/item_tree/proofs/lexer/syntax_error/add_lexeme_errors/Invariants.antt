use Rattle.std.proofs.Common.{◌≡◌, ◌++◌, drop}
use Rattle.item_tree.specs.SyntaxErrors.{lexeme_errors}
use Rattle.item_tree.proofs.lexer.syntax_error.add_lexeme_errors.Given as goal

abbrev pub invariant-loop-at : goal.invariant-loop-at
invariant-loop-at l = l.errors.items ++ lexeme_errors l.partners l.at (drop l.at l.lexemes) ≡ l.fn.errors.items ++ lexeme_errors l.partners 0 l.lexemes
