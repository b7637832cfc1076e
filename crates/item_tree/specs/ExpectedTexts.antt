-- What is said of what a text lacks.
use Rattle.std.specs.Prelude.{ℕ, List, codes}
use Rattle.item_tree.specs.declared.items.expected.Expected.{Expected}
use Rattle.item_tree.specs.declared.items.expected.Expected.TheVariants.{Item, Semicolon, Body, Group, Closing, Opening, Token}
use Rattle.item_tree.specs.declared.lexer.lexeme.Delimiter.TheVariants.{Parenthesis, Bracket, Brace}

abbrev pub expected_text : Expected → List ℕ
expected_text Item = codes "expected an item"
expected_text Semicolon = codes "expected `;`"
expected_text Body = codes "expected a body or `;`"
expected_text Group = codes "expected `(`, `[` or `{`"
expected_text (Closing Parenthesis) = codes "expected `)`"
expected_text (Closing Bracket) = codes "expected `]`"
expected_text (Closing Brace) = codes "expected `}`"
expected_text (Opening Parenthesis) = codes "expected `(` before `)`"
expected_text (Opening Bracket) = codes "expected `[` before `]`"
expected_text (Opening Brace) = codes "expected `{` before `}`"
expected_text Token = codes "expected a token"
