-- The visibility that is written before an item or a field.
use Rattle.std.specs.Prelude.{◌==◌, ◌+◌, ◌-◌, ◌&&◌, ℕ, Bool, true, false, List, Option, Some, None, slice_get, nat_le, nat_lt, if◌then◌else◌}
use Rattle.item_tree.specs.declared.items.Range.{Range}
use Rattle.item_tree.specs.declared.lexer.lexeme.Delimiter.TheVariants.{Parenthesis}
use Rattle.item_tree.specs.declared.lexer.lexeme.Lexeme.{Lexeme}
use Rattle.item_tree.specs.declared.lexer.lexeme.LexemeKind.{LexemeKind}
use Rattle.item_tree.specs.declared.lexer.lexeme.LexemeKind.TheVariants.{Word, Close, Error}
use Rattle.item_tree.specs.declared.items.visibility.RawVisibility.{RawVisibility}
use Rattle.item_tree.specs.declared.items.visibility.RawVisibility.TheVariants as raw
use Rattle.item_tree.specs.declared.lexer.word.Word.TheVariants as word

abbrev pub kind_of_lexeme : Option Lexeme → LexemeKind
kind_of_lexeme None = Error
kind_of_lexeme (Some l) = l.kind

-- the kind of the lexeme at a place; an error past the last
abbrev pub lexeme_at : List Lexeme → ℕ → LexemeKind
lexeme_at ls i = kind_of_lexeme (slice_get ls i)

-- the visibility, if the next lexeme closes its parentheses
abbrev pub closed : RawVisibility → LexemeKind → RawVisibility
closed v (Close Parenthesis) = v
closed v _ = raw.Error

-- in parentheses there is `crate`, `super` or `self`, or `in` and a path
abbrev pub restricted : LexemeKind → LexemeKind → Range → RawVisibility
restricted (Word word.Crate) next path = closed raw.PubCrate next
restricted (Word word.Super) next path = closed raw.PubSuper next
restricted (Word word.SelfValue) next path = closed raw.PubSelf next
restricted (Word word.In) next path = raw.In path
restricted _ next path = raw.Error

-- a visibility is `pub`, or that and parentheses; the path stands behind `pub`, `(` and `in`, and before `)`
abbrev pub visibility_in : List Lexeme → Range → RawVisibility
visibility_in ls r =
    if nat_le r.behind r.first then raw.Inherited
    else if r.behind - r.first == 1 then raw.Public
    else if nat_lt (r.behind - r.first) 4 then raw.Error
    else restricted (lexeme_at ls (r.first + 2)) (lexeme_at ls (r.first + 3)) (record { first = r.first + 3; behind = r.behind - 1 })

abbrev pub is_unsafe : LexemeKind → Bool
is_unsafe (Word word.Unsafe) = true
is_unsafe _ = false

-- between the visibility and the name of a field there may be `unsafe`
abbrev pub before_unsafe : List Lexeme → Range → Range
before_unsafe ls r = if nat_lt r.first r.behind && is_unsafe (lexeme_at ls (r.behind - 1)) then record { first = r.first; behind = r.behind - 1 } else r

abbrev pub raw_visibility : List Lexeme → Range → RawVisibility
raw_visibility ls r = visibility_in ls (before_unsafe ls r)
