use Rattle.std.proofs.Common.{◌≡◌, ◌++◌, drop}
use Rattle.std.specs.List.{flat_map}
use Rattle.crate_items.specs.LexemeNames.{lexeme_names}
use Rattle.crate_items.proofs.items.lexeme_names.names_among.Given as goal

abbrev pub invariant-loop-lexeme : goal.invariant-loop-lexeme
invariant-loop-lexeme l =
    l.names.items ++ flat_map (lexeme_names l.text) (drop l.lexeme-index l.lexemes) ≡ flat_map (lexeme_names l.text) l.lexemes
