use Rattle.std.proofs.Common.{◌≡◌, ◌++◌, drop}
use Rattle.item_tree.specs.SyntaxErrors.{item_errors}
use Rattle.item_tree.proofs.lexer.syntax_error.add_item_errors.Given as goal

abbrev pub invariant-loop-item : goal.invariant-loop-item
invariant-loop-item l = l.errors.items ++ item_errors (drop l.item-index l.items) ≡ l.fn.errors.items ++ item_errors l.items
