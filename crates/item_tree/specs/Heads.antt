-- What stands in an item before its own word: attributes, a visibility, qualifiers.
use Rattle.std.specs.Prelude.{◌==◌, ◌+◌, ◌||◌, ◌&&◌, ℕ, Bool, true, false, List, [], ◌∷◌, Option, Some, None, slice_get, if◌then◌else◌}
use Rattle.item_tree.specs.declared.lexer.lexeme.Delimiter.TheVariants.{Parenthesis, Bracket, Brace}
use Rattle.item_tree.specs.declared.lexer.lexeme.LexemeKind.{LexemeKind}
use Rattle.item_tree.specs.declared.lexer.lexeme.LexemeKind.TheVariants.{Word, Open, Mark, Str, Error}
use Rattle.item_tree.specs.declared.lexer.trees.Tree.{Tree}
use Rattle.item_tree.specs.declared.lexer.word.Word.TheVariants as word
use Rattle.item_tree.specs.declared.lexer.word.Word as words

abbrev pub kind_of_tree : Option Tree → LexemeKind
kind_of_tree None = Error
kind_of_tree (Some t) = t.kind

-- the kind of the tree at a place; an error past the last
abbrev pub kind_at : List Tree → ℕ → LexemeKind
kind_at ts i = kind_of_tree (slice_get ts i)

-- where no tree stands before
abbrev pub nothing : LexemeKind
nothing = Error

abbrev pub is_mark : ℕ → LexemeKind → Bool
is_mark b (Mark c) = c == b
is_mark b _ = false

abbrev pub is_bracket : LexemeKind → Bool
is_bracket (Open Bracket) = true
is_bracket _ = false

abbrev pub is_parenthesis : LexemeKind → Bool
is_parenthesis (Open Parenthesis) = true
is_parenthesis _ = false

abbrev pub is_brace : LexemeKind → Bool
is_brace (Open Brace) = true
is_brace _ = false

abbrev pub is_function : LexemeKind → Bool
is_function (Word word.Fn) = true
is_function _ = false

abbrev pub is_trait : LexemeKind → Bool
is_trait (Word word.Trait) = true
is_trait _ = false

abbrev pub is_const : LexemeKind → Bool
is_const (Word word.Const) = true
is_const _ = false

abbrev pub is_extern : LexemeKind → Bool
is_extern (Word word.Extern) = true
is_extern _ = false

abbrev pub is_string : LexemeKind → Bool
is_string Str = true
is_string _ = false

-- the words that may stand behind `default`, `final` and `safe` where those are no names
abbrev pub goes_on_item : LexemeKind → Bool
goes_on_item (Word word.Fn) = true
goes_on_item (Word word.Type) = true
goes_on_item (Word word.Const) = true
goes_on_item (Word word.Static) = true
goes_on_item (Word word.Impl) = true
goes_on_item (Word word.Trait) = true
goes_on_item (Word word.Async) = true
goes_on_item (Word word.Gen) = true
goes_on_item (Word word.Unsafe) = true
goes_on_item (Word word.Extern) = true
goes_on_item _ = false

-- what may stand behind `const` where that begins no constant; `auto` may be the name of one
abbrev pub goes_on_by : LexemeKind → LexemeKind → Bool
goes_on_by (Word word.Fn) next = true
goes_on_by (Word word.Async) next = true
goes_on_by (Word word.Gen) next = true
goes_on_by (Word word.Unsafe) next = true
goes_on_by (Word word.Extern) next = true
goes_on_by (Word word.Trait) next = true
goes_on_by (Word word.Impl) next = true
goes_on_by (Word word.Auto) next = is_trait next
goes_on_by _ next = false

abbrev pub goes_on_const : List Tree → Bool
goes_on_const behind = goes_on_by (kind_at behind 0) (kind_at behind 1)

-- a word is a qualifier of what goes on behind it; `extern` is one before `fn` and before a string and `fn`
abbrev pub qualifies : words.Word → List Tree → Bool
qualifies word.Unsafe behind = true
qualifies word.Async behind = true
qualifies word.Gen behind = true
qualifies word.Default behind = goes_on_item (kind_at behind 0)
qualifies word.Final behind = goes_on_item (kind_at behind 0)
qualifies word.Safe behind = goes_on_item (kind_at behind 0)
qualifies word.Auto behind = is_trait (kind_at behind 0)
qualifies word.Const behind = goes_on_const behind
qualifies word.Extern behind = is_function (kind_at behind 0) || (is_string (kind_at behind 0) && is_function (kind_at behind 1))
qualifies _ behind = false

-- and so is the string between `extern` and `fn`
abbrev pub is_qualifier : LexemeKind → LexemeKind → List Tree → Bool
is_qualifier before (Word w) behind = qualifies w behind
is_qualifier before Str behind = is_extern before && is_function (kind_at behind 0)
is_qualifier before _ behind = false

-- an attribute is a hash and brackets
abbrev pub is_in_attribute : LexemeKind → LexemeKind → List Tree → Bool
is_in_attribute before k behind = if is_mark 35 k then is_bracket (kind_at behind 0) else is_bracket k && is_mark 35 before

-- how many trees of attributes the trees begin with, behind a tree
abbrev pub attributes_len : LexemeKind → List Tree → ℕ
attributes_len before [] = 0
attributes_len before (t ∷ ts) = if is_in_attribute before t.kind ts then 1 + attributes_len t.kind ts else 0

-- a visibility is `pub`, or that and parentheses
abbrev pub visibility_of : LexemeKind → LexemeKind → ℕ
visibility_of (Word word.Pub) next = if is_parenthesis next then 2 else 1
visibility_of _ next = 0

abbrev pub visibility_len : List Tree → ℕ
visibility_len ts = visibility_of (kind_at ts 0) (kind_at ts 1)

-- how many qualifiers the trees begin with, behind a tree
abbrev pub qualifiers_len : LexemeKind → List Tree → ℕ
qualifiers_len before [] = 0
qualifiers_len before (t ∷ ts) = if is_qualifier before t.kind ts then 1 + qualifiers_len t.kind ts else 0
