-- What surely begins another item, where one that misses its end goes on.
use Rattle.std.specs.Prelude.{◌==◌, ◌||◌, ◌&&◌, ℕ, Bool, true, false, not, List, [], ◌∷◌}
use Rattle.item_tree.specs.Heads.{kind_at, is_mark, is_bracket, is_const, is_qualifier}
use Rattle.item_tree.specs.ItemKinds.{is_name, is_mutable, takes}
use Rattle.item_tree.specs.declared.items.item_kind.ItemKind.{ItemKind}
use Rattle.item_tree.specs.declared.items.item_kind.ItemKind.TheVariants as item
use Rattle.item_tree.specs.declared.items.item_kind.PathPart.TheVariants.{Start}
use Rattle.item_tree.specs.declared.lexer.lexeme.LexemeKind.{LexemeKind}
use Rattle.item_tree.specs.declared.lexer.lexeme.LexemeKind.TheVariants.{Word, Mark}
use Rattle.item_tree.specs.declared.lexer.trees.Tree.{Tree}
use Rattle.item_tree.specs.declared.lexer.word.Word as words
use Rattle.item_tree.specs.declared.lexer.word.Word.TheVariants as word

abbrev pub is_crate : LexemeKind → Bool
is_crate (Word word.Crate) = true
is_crate _ = false

abbrev pub is_constant_name : LexemeKind → Bool
is_constant_name (Word word.Underscore) = true
is_constant_name k = is_name k

-- these begin an item wherever they stand: no header, type or expression has them between its groups. `fn` without a
-- name is a type, `static` without a name a closure, and `use` without a path a bound
abbrev pub word_begins : words.Word → List Tree → Bool
word_begins word.Pub behind = true
word_begins word.Mod behind = is_name (kind_at behind 0)
word_begins word.Struct behind = is_name (kind_at behind 0)
word_begins word.Enum behind = is_name (kind_at behind 0)
word_begins word.Fn behind = is_name (kind_at behind 0)
word_begins word.Trait behind = is_name (kind_at behind 0)
word_begins word.Type behind = is_name (kind_at behind 0) || (is_const (kind_at behind 0) && is_constant_name (kind_at behind 1))
word_begins word.Use behind = takes Start (kind_at behind 0)
word_begins word.Static behind = is_name (kind_at behind 0) || (is_mutable (kind_at behind 0) && is_name (kind_at behind 1))
word_begins word.Extern behind = is_crate (kind_at behind 0)
word_begins word.MacroRules behind = is_mark 33 (kind_at behind 0) && is_name (kind_at behind 1)
word_begins _ behind = false

-- a constant has a name and one colon behind `const`; behind a star `const` is of a pointer, and behind an angle
-- bracket or a comma of a parameter
abbrev pub const_begins : LexemeKind → List Tree → Bool
const_begins before behind =
    is_constant_name (kind_at behind 0) && is_mark 58 (kind_at behind 1) && not (is_mark 58 (kind_at behind 2)) && not (is_mark 42 before || is_mark 60 before || is_mark 44 before)

-- in these no type stands outside of angle brackets that may begin with `impl`
abbrev pub impl_ends : ItemKind → Bool
impl_ends item.Use = true
impl_ends item.ExternCrate = true
impl_ends item.Mod = true
impl_ends item.Struct = true
impl_ends item.Union = true
impl_ends item.Enum = true
impl_ends _ = false

abbrev pub is_where : LexemeKind → Bool
is_where (Word word.Where) = true
is_where _ = false

-- a mark behind which an operand begins
abbrev pub is_operator : LexemeKind → Bool
is_operator (Mark b) = not (b == 62 || b == 63)
is_operator _ = false

-- an operand of a value may have attributes, and so may each predicate behind `where`, as in `where #[cfg(a)] T: A`
abbrev pub takes_attribute : ItemKind → LexemeKind → Bool
takes_attribute item.Const before = is_operator before
takes_attribute item.Static before = is_operator before
takes_attribute _ before = is_mark 44 before || is_where before

-- and these begin one outside of angle brackets alone, where a parameter may have an attribute or `const`
abbrev pub begins_outside : ItemKind → LexemeKind → LexemeKind → List Tree → Bool
begins_outside kind before (Mark b) behind = (b == 35) && is_bracket (kind_at behind 0) && not (takes_attribute kind before)
begins_outside kind before (Word word.Const) behind = const_begins before behind
begins_outside kind before (Word word.Impl) behind = impl_ends kind
begins_outside kind before _ behind = false

abbrev pub begins_anywhere : LexemeKind → List Tree → Bool
begins_anywhere (Word w) behind = word_begins w behind
begins_anywhere _ behind = false

-- whether a tree surely begins another item than the one of a kind that goes on there, behind a tree, with so many angle
-- brackets open
abbrev pub begins_another : ItemKind → ℕ → LexemeKind → LexemeKind → List Tree → Bool
begins_another kind depth before k behind = begins_anywhere k behind || ((depth == 0) && begins_outside kind before k behind)

-- whether such a tree begins the trees, or qualifiers and then one
abbrev pub another_begins : ItemKind → ℕ → LexemeKind → List Tree → Bool
another_begins kind depth before [] = false
another_begins kind depth before (t ∷ ts) = begins_another kind depth before t.kind ts || (is_qualifier before t.kind ts && another_begins kind depth t.kind ts)
