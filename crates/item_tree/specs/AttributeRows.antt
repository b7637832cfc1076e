-- Predicates and attributes that are easy to read wrongly, and how they are read.
use Rattle.std.specs.Prelude.{◌≡◌, ℕ, Bool, true, false, List, [], ◌∷◌, Option, Some, None, Ok, Err, codes}
use Rattle.item_tree.specs.Spans.{bare, contents}
use Rattle.item_tree.specs.Strings.{value_from}
use Rattle.item_tree.specs.Cfg.{value_of}
use Rattle.item_tree.specs.CfgReading as predicate
use Rattle.item_tree.specs.AttributeReading as attribute
use Rattle.item_tree.specs.AttributeLists.{items_of}
use Rattle.item_tree.specs.declared.lexer.span.Span.{Span}
use Rattle.item_tree.specs.declared.lexer.word.Word.{Word}
use Rattle.item_tree.specs.declared.lexer.word.Word.TheVariants as word
use Rattle.item_tree.specs.declared.lexer.lexeme.Delimiter.TheVariants.{Parenthesis, Bracket}
use Rattle.item_tree.specs.declared.lexer.lexeme.LexemeKind.{LexemeKind}
use Rattle.item_tree.specs.declared.lexer.lexeme.LexemeKind.TheVariants.{Word as Named, Open, Close, Mark}
use Rattle.item_tree.specs.declared.lexer.lexeme.Lexeme.{Lexeme}
use Rattle.item_tree.specs.declared.cfg.CfgAtom.TheVariants as atom
use Rattle.item_tree.specs.declared.cfg.CfgNode.{CfgNode}
use Rattle.item_tree.specs.declared.cfg.CfgNode.TheVariants.{Invalid, Flag, Not, All, Any}
use Rattle.item_tree.specs.declared.attributes.attribute_reader.AttributePlace.{AttributePlace}

-- a lexeme of a byte at a place, and a name there
abbrev pub byte : LexemeKind → ℕ → Lexeme
byte k at = record { kind = k; start = at; len = 1 }

abbrev pub name : ℕ → Lexeme
name at = byte (Named word.Other) at

abbrev pub keyword : Word → ℕ → ℕ → Lexeme
keyword w at n = record { kind = Named w; start = at; len = n }

abbrev pub place : ℕ → Span
place at = record { start = at; len = 1 }

-- `all(a,not(b))`
abbrev pub nested : Type 0
nested =
    predicate.reading (codes "all(a,not(b))")
    (keyword word.All 0 3 ∷ byte (Open Parenthesis) 3 ∷ name 4 ∷ byte (Mark 44) 5 ∷ keyword word.Not 6 3 ∷ byte (Open Parenthesis) 9 ∷ name 10 ∷ byte (Close Parenthesis) 11 ∷ byte (Close Parenthesis) 12 ∷ [])
    ≡ Ok (Flag (place 4) ∷ All 2 ∷ Flag (place 10) ∷ Not 3 ∷ [])

-- `a b` goes wrong at the second name, and `not(a,b)` at the `b`
abbrev pub two_names : Type 0
two_names = predicate.reading (codes "a b") (name 0 ∷ name 2 ∷ []) ≡ Err 1

abbrev pub not_of_two : Type 0
not_of_two =
    predicate.reading (codes "not(a,b)")
    (keyword word.Not 0 3 ∷ byte (Open Parenthesis) 3 ∷ name 4 ∷ byte (Mark 44) 5 ∷ name 6 ∷ byte (Close Parenthesis) 7 ∷ [])
    ≡ Err 4

-- `b` is the only option of the text `ab`; what cannot be read is not asked behind what settles its list
abbrev pub value : List CfgNode → Option Bool
value nodes = value_of (atom.Flag (codes "b") ∷ []) (codes "ab") None None nodes

abbrev pub settled_all : Type 0
settled_all = value (Flag (place 0) ∷ All 1 ∷ Invalid ∷ []) ≡ Some false

abbrev pub settled_any : Type 0
settled_any = value (Flag (place 1) ∷ Any 1 ∷ Invalid ∷ []) ≡ Some true

abbrev pub unknown : Type 0
unknown = value (Invalid ∷ Any 1 ∷ Flag (place 1) ∷ []) ≡ None

-- `any(not(all(b,a)),a)`: only the inner list is settled
abbrev pub inner_list : Type 0
inner_list = value (Flag (place 0) ∷ All 3 ∷ Flag (place 1) ∷ Not 2 ∷ Any 1 ∷ Flag (place 0) ∷ []) ≡ Some true

-- names and strings, raw and plain
abbrev pub raw_name : Type 0
raw_name = bare (codes "r#if") ≡ codes "if"

abbrev pub string : Type 0
string = contents (codes "\"a\"") ≡ codes "a"

abbrev pub raw_string : Type 0
raw_string = contents (codes "r##\"\"#\"##") ≡ codes "\"#"

abbrev pub found : Word → Option ℕ → ℕ → AttributePlace
found w condition at = record { name = w; inner = false; condition = condition; input = record { first = at; behind = at } }

-- `#[cfg_attr(a, b, path)]`: two attributes under one condition
abbrev pub of_cfg_attr : List Lexeme
of_cfg_attr =
    byte (Mark 35) 0 ∷ byte (Open Bracket) 1 ∷ keyword word.CfgAttr 2 8 ∷ byte (Open Parenthesis) 10 ∷ name 11 ∷ byte (Mark 44) 12
    ∷ name 14 ∷ byte (Mark 44) 15 ∷ keyword word.Path 17 4 ∷ byte (Close Parenthesis) 21 ∷ byte (Close Bracket) 22 ∷ []

abbrev pub two_attributes : Type 0
two_attributes = (attribute.reading of_cfg_attr).attributes ≡ found word.Other (Some 0) 7 ∷ found word.Path (Some 0) 9 ∷ []

abbrev pub one_condition : Type 0
one_condition = (attribute.reading of_cfg_attr).conditions ≡ record { outer = None; predicate = record { first = 4; behind = 5 } } ∷ []

-- `#[unsafe(macro_use)] # a`
abbrev pub seen_through : Type 0
seen_through =
    (attribute.reading (byte (Mark 35) 0 ∷ byte (Open Bracket) 1 ∷ keyword word.Unsafe 2 6 ∷ byte (Open Parenthesis) 8 ∷ keyword word.MacroUse 9 9 ∷ byte (Close Parenthesis) 18 ∷ byte (Close Bracket) 19 ∷ byte (Mark 35) 21 ∷ name 23 ∷ [])).attributes
    ≡ found word.MacroUse None 5 ∷ []

-- `a,(b,c),`: two items
abbrev pub two_items : Type 0
two_items =
    items_of (name 0 ∷ byte (Mark 44) 1 ∷ byte (Open Parenthesis) 2 ∷ name 3 ∷ byte (Mark 44) 4 ∷ name 5 ∷ byte (Close Parenthesis) 6 ∷ byte (Mark 44) 7 ∷ []) (record { first = 0; behind = 8 })
    ≡ record { first = 0; behind = 1 } ∷ record { first = 2; behind = 7 } ∷ []

-- `a\x62\u{6_3}\n`, `\u{20AC}` and `\'\0\\`, in a string
abbrev pub escapes : Type 0
escapes = value_from false 0 (97 ∷ 92 ∷ 120 ∷ 54 ∷ 50 ∷ 92 ∷ 117 ∷ 123 ∷ 54 ∷ 95 ∷ 51 ∷ 125 ∷ 92 ∷ 110 ∷ []) ≡ 97 ∷ 98 ∷ 99 ∷ 10 ∷ []

abbrev pub character : Type 0
character = value_from false 0 (92 ∷ 117 ∷ 123 ∷ 50 ∷ 48 ∷ 65 ∷ 67 ∷ 125 ∷ []) ≡ 226 ∷ 130 ∷ 172 ∷ []

abbrev pub simple_escapes : Type 0
simple_escapes = value_from false 0 (92 ∷ 39 ∷ 92 ∷ 48 ∷ 92 ∷ 92 ∷ []) ≡ 39 ∷ 0 ∷ 92 ∷ []

-- a line end behind a backslash, with blanks and line ends behind it; and one without a backslash
abbrev pub line_ends : Type 0
line_ends = value_from false 0 (97 ∷ 92 ∷ 13 ∷ 10 ∷ 32 ∷ 9 ∷ 10 ∷ 98 ∷ 13 ∷ 10 ∷ 32 ∷ []) ≡ 97 ∷ 98 ∷ 10 ∷ 32 ∷ []

-- `\x62` in a raw string, and `\x80`, `\u{D800}` and `\q`, which are no escapes
abbrev pub raw_escape : Type 0
raw_escape = value_from true 0 (92 ∷ 120 ∷ 54 ∷ 50 ∷ []) ≡ 92 ∷ 120 ∷ 54 ∷ 50 ∷ []

abbrev pub great_byte : Type 0
great_byte = value_from false 0 (92 ∷ 120 ∷ 56 ∷ 48 ∷ []) ≡ 92 ∷ 120 ∷ 56 ∷ 48 ∷ []

abbrev pub surrogate : Type 0
surrogate = value_from false 0 (92 ∷ 117 ∷ 123 ∷ 68 ∷ 56 ∷ 48 ∷ 48 ∷ 125 ∷ []) ≡ 92 ∷ 117 ∷ 123 ∷ 68 ∷ 56 ∷ 48 ∷ 48 ∷ 125 ∷ []

abbrev pub no_escape : Type 0
no_escape = value_from false 0 (92 ∷ 113 ∷ []) ≡ 92 ∷ 113 ∷ []
