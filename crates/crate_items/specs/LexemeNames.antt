-- What lexemes name.
use Rattle.std.specs.Prelude.{ℕ, Bool, true, false, not, List, [], ◌∷◌, Option, Some, None, slice_get, if◌then◌else◌}
use Rattle.crate_items.specs.Modules.{as_name}
use Rattle.dm_base.specs.Names.{Name}
use Rattle.item_tree.specs.Spans.{name_text}
use Rattle.item_tree.specs.Visibilities.{lexeme_at}
use Rattle.item_tree.specs.declared.lexer.lexeme.Lexeme.{Lexeme}
use Rattle.item_tree.specs.declared.lexer.lexeme.LexemeKind.{LexemeKind}
use Rattle.item_tree.specs.declared.lexer.lexeme.LexemeKind.TheVariants as kind
use Rattle.item_tree.specs.declared.lexer.word.Word.{Word}
use Rattle.item_tree.specs.declared.lexer.word.Word.TheVariants as word

-- `_` names nothing, and neither do the words that begin paths
abbrev pub names_nothing : Word → Bool
names_nothing word.Underscore = true
names_nothing word.SelfValue = true
names_nothing word.SelfType = true
names_nothing word.Super = true
names_nothing word.Crate = true
names_nothing _ = false

abbrev pub is_named : LexemeKind → Bool
is_named (kind.Word w) = not (names_nothing w)
is_named _ = false

-- what a lexeme names: its text, without the `r#` of a raw name; what is no UTF-8 is no name
abbrev pub lexeme_name : List ℕ → Lexeme → Option Name
lexeme_name text l =
    if is_named l.kind then as_name (name_text text (record { start = l.start; len = l.len })) else None

abbrev pub name_of : List ℕ → Option Lexeme → Option Name
name_of text None = None
name_of text (Some l) = lexeme_name text l

-- what the lexeme at a place names
abbrev pub name_at : List ℕ → List Lexeme → ℕ → Option Name
name_at text ls i = name_of text (slice_get ls i)

-- the kind of the lexeme at a place; an error past the last
abbrev pub kind_at : List Lexeme → ℕ → LexemeKind
kind_at ls i = lexeme_at ls i

abbrev pub listed : Option Name → List Name
listed None = []
listed (Some name) = name ∷ []

-- the name that a lexeme is, if it is one
abbrev pub lexeme_names : List ℕ → Lexeme → List Name
lexeme_names text l = listed (lexeme_name text l)
