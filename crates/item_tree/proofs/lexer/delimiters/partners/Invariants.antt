use Rattle.item_tree.proofs.Partners.{Reading}
use Rattle.item_tree.proofs.lexer.delimiters.partners.Given as goal

abbrev pub invariant-loop-lexeme : goal.invariant-loop-lexeme
invariant-loop-lexeme l = Reading l.lexemes l.lexeme-index l.pending l.before.items l.partners.items
