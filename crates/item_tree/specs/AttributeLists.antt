-- The lists of attributes.
use Rattle.std.specs.Prelude.{◌==◌, ◌+◌, ◌-◌, ◌&&◌, ℕ, Bool, false, List, [], ◌∷◌, ◌++◌, Option, Some, None, nat_lt, length, codes, if◌then◌else◌}
use Rattle.std.specs.Str.{bytes_eq}
use Rattle.item_tree.specs.Spans.{name_text}
use Rattle.item_tree.specs.CfgReading.{span_of}
use Rattle.item_tree.specs.AttributeKinds.{lexemes_in, input_of}
use Rattle.item_tree.specs.declared.lexer.lexeme.LexemeKind.{LexemeKind}
use Rattle.item_tree.specs.declared.lexer.lexeme.LexemeKind.TheVariants as kind
use Rattle.item_tree.specs.declared.lexer.lexeme.Lexeme.{Lexeme}
use Rattle.item_tree.specs.declared.items.Range.{Range}
use Rattle.item_tree.specs.declared.attributes.attribute_kind.AttributeInput.{AttributeInput}
use Rattle.item_tree.specs.declared.attributes.attribute_kind.AttributeInput.TheVariants.{List as InList}

-- how many brackets are open behind a lexeme
abbrev pub depth_behind : ℕ → LexemeKind → ℕ
depth_behind depth (kind.Open d) = depth + 1
depth_behind depth (kind.Close d) = depth - 1
depth_behind depth _ = depth

abbrev pub is_comma : LexemeKind → Bool
is_comma (kind.Mark b) = b == 44
is_comma _ = false

abbrev pub is_separator : ℕ → LexemeKind → Bool
is_separator depth k = (depth == 0) && is_comma k

-- an item of some lexemes
abbrev pub item : ℕ → ℕ → List Range
item first end = if nat_lt first end then record { first = first; behind = end } ∷ [] else []

-- the items of the rest of a list, of which one has begun at a lexeme, by commas that are in no brackets
abbrev pub split : ℕ → ℕ → ℕ → List Lexeme → List Range
split first depth at [] = item first at
split first depth at (l ∷ ls) =
    if is_separator depth l.kind then item first at ++ split (at + 1) depth (at + 1) ls
    else split first (depth_behind depth l.kind) (at + 1) ls

abbrev pub items_of : List Lexeme → Range → List Range
items_of ls r = if length (lexemes_in ls r) == 0 then [] else split r.first 0 r.first (lexemes_in ls r)

-- the name `attributes`
abbrev pub is_attributes_kind : List ℕ → Lexeme → LexemeKind → Bool
is_attributes_kind text l (kind.Word w) = bytes_eq (name_text text (span_of l)) (codes "attributes")
is_attributes_kind text l _ = false

abbrev pub is_attributes : List ℕ → Lexeme → Bool
is_attributes text l = is_attributes_kind text l l.kind

abbrev pub list_in : AttributeInput → Option Range
list_in (InList r) = Some r
list_in _ = None

-- what `attributes` has in its parentheses
abbrev pub helpers_behind : List ℕ → List Lexeme → Range → List Lexeme → Option Range
helpers_behind text ls r [] = None
helpers_behind text ls r (l ∷ rest) =
    if is_attributes text l then list_in (input_of text ls (record { first = r.first + 1; behind = r.behind })) else None

abbrev pub helper_list : List ℕ → List Lexeme → Range → Option Range
helper_list text ls r = helpers_behind text ls r (lexemes_in ls r)
