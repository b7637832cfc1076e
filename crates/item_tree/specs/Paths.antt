-- Paths of macro calls and the names of extern crates.
use Rattle.std.specs.Prelude.{◌+◌, ℕ, Bool, false, List, Option, Some, None, drop, if◌then◌else◌}
use Rattle.item_tree.specs.UseTrees.{is_alias, path_len}
use Rattle.item_tree.specs.Visibilities.{lexeme_at}
use Rattle.item_tree.specs.declared.items.item_kind.PathPart.TheVariants.{Start}
use Rattle.item_tree.specs.declared.items.Range.{Range}
use Rattle.item_tree.specs.declared.lexer.lexeme.Lexeme.{Lexeme}
use Rattle.item_tree.specs.declared.lexer.lexeme.LexemeKind.{LexemeKind}
use Rattle.item_tree.specs.declared.lexer.lexeme.LexemeKind.TheVariants.{Word}
use Rattle.item_tree.specs.declared.lexer.word.Word.TheVariants as word

-- the path that begins at a place
abbrev pub path_at : List Lexeme → ℕ → Range
path_at ls i = record { first = i; behind = i + path_len Start (drop i ls) }

abbrev pub renames : LexemeKind → LexemeKind → Bool
renames (Word word.As) next = is_alias next
renames _ next = false

-- `as`, and a name or `_`
abbrev pub begins_alias : List Lexeme → Bool
begins_alias ls = renames (lexeme_at ls 0) (lexeme_at ls 1)

-- the place of what stands behind `as`, behind the name of an extern crate
abbrev pub extern_crate_alias : List Lexeme → ℕ → Option ℕ
extern_crate_alias ls name = if begins_alias (drop (name + 1) ls) then Some (name + 2) else None
