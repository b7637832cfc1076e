-- The public items of a text.
use Rattle.std.specs.Prelude.{◌≡◌, ◌++◌, ℕ, Bool, false, true, List, [], Option, Some, None, slice_get}
use Rattle.dm_base.specs.declared.edition.Edition.TheVariants.{Edition2021}
use Rattle.item_tree.specs.Delimiters.{partners_of}
use Rattle.item_tree.specs.Items.{children_from, top_level_of}
use Rattle.item_tree.specs.Lexemes.{lexemes_of}
use Rattle.item_tree.specs.Spans.{name_text}
use Rattle.item_tree.specs.Tokens.{are_tokens}
use Rattle.item_tree.specs.Visibilities.{raw_visibility}
use Rattle.item_tree.specs.declared.items.Item.{Item}
use Rattle.item_tree.specs.declared.lexer.lexeme.Lexeme.{Lexeme}
use Rattle.item_tree.specs.declared.lexer.token.Token.{Token}
use Rattle.item_tree.specs.declared.items.visibility.RawVisibility.{RawVisibility}
use Rattle.item_tree.specs.declared.items.visibility.RawVisibility.TheVariants.{Public}

abbrev pub is_pub : RawVisibility → Bool
is_pub Public = true
is_pub _ = false

-- `pub` alone is written before an item
abbrev pub is_public : List Lexeme → Item → Bool
is_public lexemes x = is_pub (raw_visibility lexemes (record { first = x.visibility; behind = x.qualifiers }))

-- the lexemes of a text, of which only one list is its tokens
abbrev pub AreLexemesOf : List ℕ → List Lexeme → Type 0
AreLexemesOf text lexemes =
    (tokens : List Token) → are_tokens Edition2021 true tokens text ≡ true →
    lexemes ≡ lexemes_of Edition2021 0 tokens text

-- the items of such a text: those of the top level, and behind them those in each item, in order
abbrev pub AreItemsOf : List Lexeme → List Item → Type 0
AreItemsOf lexemes items =
    items ≡ top_level_of lexemes (partners_of lexemes) ++ children_from lexemes (partners_of lexemes) 0 items

abbrev pub name_in : List ℕ → Option Lexeme → List ℕ
name_in text None = []
name_in text (Some l) = name_text text (record { start = l.start; len = l.len })

abbrev pub name_at : List ℕ → List Lexeme → Option ℕ → List ℕ
name_at text lexemes None = []
name_at text lexemes (Some place) = name_in text (slice_get lexemes place)

-- the name of an item in its text, without the `r#` of a raw one; nothing where it has none
abbrev pub name_of : List ℕ → List Lexeme → Item → List ℕ
name_of text lexemes x = name_at text lexemes x.name
