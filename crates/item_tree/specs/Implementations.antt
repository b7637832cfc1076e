-- Implementations of a trait, and inherent ones.
use Rattle.std.specs.Prelude.{◌==◌, ◌||◌, ◌&&◌, ℕ, Bool, true, false, not, List, [], ◌∷◌, if◌then◌else◌}
use Rattle.item_tree.specs.Heads.{is_brace, is_mark, nothing}
use Rattle.item_tree.specs.ItemEnds.{depth_behind}
use Rattle.item_tree.specs.Trees.{trees_of}
use Rattle.item_tree.specs.declared.items.item_kind.ItemKind.{ItemKind}
use Rattle.item_tree.specs.declared.items.item_kind.ItemKind.TheVariants as item
use Rattle.item_tree.specs.declared.items.Item.{Item}
use Rattle.item_tree.specs.declared.lexer.lexeme.Lexeme.{Lexeme}
use Rattle.item_tree.specs.declared.lexer.lexeme.LexemeKind.{LexemeKind}
use Rattle.item_tree.specs.declared.lexer.lexeme.LexemeKind.TheVariants as lexeme
use Rattle.item_tree.specs.declared.lexer.trees.Tree.{Tree}
use Rattle.item_tree.specs.declared.lexer.word.Word.{Word}
use Rattle.item_tree.specs.declared.lexer.word.Word.TheVariants as word

-- behind these a `for` begins a type, as in `impl dyn for<'a> Read<'a> {}`
abbrev pub is_type_word : Word → Bool
is_type_word word.Impl = true
is_type_word word.Dyn = true
is_type_word _ = false

abbrev pub begins_type : LexemeKind → Bool
begins_type (lexeme.Word w) = is_type_word w
begins_type k = is_mark 43 k

abbrev pub is_for : LexemeKind → Bool
is_for (lexeme.Word word.For) = true
is_for _ = false

abbrev pub is_where : LexemeKind → Bool
is_where (lexeme.Word word.Where) = true
is_where _ = false

-- any other `for` stands between a trait and the type that has it
abbrev pub parts_trait : LexemeKind → ℕ → LexemeKind → Bool
parts_trait before depth k = (depth == 0) && is_for k && not (begins_type before)

-- trait and type stand before `where` and the body
abbrev pub ends_types : ℕ → LexemeKind → Bool
ends_types depth k = (depth == 0) && (is_brace k || is_where k)

-- whether a trait is named in trees, behind this one and in so many angle brackets
abbrev pub names_trait : LexemeKind → ℕ → List Tree → Bool
names_trait before depth [] = false
names_trait before depth (t ∷ ts) =
    if ends_types depth t.kind then false
    else if parts_trait before depth t.kind then true
    else names_trait t.kind (depth_behind before depth t.kind) ts

abbrev pub is_of_trait_at : ItemKind → List Lexeme → List ℕ → ℕ → ℕ → Bool
is_of_trait_at item.Impl ls ps first behind = names_trait nothing 0 (trees_of ls ps first behind)
is_of_trait_at _ ls ps first behind = false

-- An item is the implementation of a trait: one is named from its own word on.
abbrev pub is_of_trait : List Lexeme → List ℕ → Item → Bool
is_of_trait ls ps x = is_of_trait_at x.kind ls ps x.word x.behind
