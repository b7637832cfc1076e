-- What the use trees of an item import: the path of a tree is that of the one in whose list it stands, and its own.
use Rattle.std.specs.Prelude.{ℕ, List, [], ◌∷◌, ◌++◌, Option, Some, None, slice_get}
use Rattle.item_tree.specs.AttributeKinds.{lexemes_in}
use Rattle.item_tree.specs.UseGrammar.{Leaf}
use Rattle.item_tree.specs.declared.lexer.lexeme.Lexeme.{Lexeme}
use Rattle.item_tree.specs.declared.items.use_tree.UseTree.{UseTree}
use Rattle.item_tree.specs.declared.items.use_tree.UseTreeKind.{UseTreeKind}
use Rattle.item_tree.specs.declared.items.use_tree.UseTreeKind.TheVariants as tree

abbrev pub path_or_none : Option (List Lexeme) → List Lexeme
path_or_none None = []
path_or_none (Some path) = path

-- the path of the list that a tree stands in, of the paths of those before it
abbrev pub outer_path : List (List Lexeme) → Option ℕ → List Lexeme
outer_path paths None = []
outer_path paths (Some n) = path_or_none (slice_get paths n)

abbrev pub whole_path : List Lexeme → List (List Lexeme) → UseTree → List Lexeme
whole_path lexemes paths t = outer_path paths t.parent ++ lexemes_in lexemes t.path

abbrev pub alias_of : List Lexeme → Option ℕ → Option Lexeme
alias_of lexemes None = None
alias_of lexemes (Some n) = slice_get lexemes n

-- names and globs import, lists do not
abbrev pub leaf_of : List Lexeme → UseTreeKind → Option Lexeme → List Leaf
leaf_of path tree.Single alias = record { path = path; kind = tree.Single; alias = alias } ∷ []
leaf_of path tree.Glob alias = record { path = path; kind = tree.Glob; alias = alias } ∷ []
leaf_of path tree.Prefixed alias = []
leaf_of path tree.Error alias = []

abbrev pub leaves_from : List Lexeme → List (List Lexeme) → List UseTree → List Leaf
leaves_from lexemes paths [] = []
leaves_from lexemes paths (t ∷ ts) =
    leaf_of (whole_path lexemes paths t) t.kind (alias_of lexemes t.alias) ++ leaves_from lexemes (paths ++ whole_path lexemes paths t ∷ []) ts

-- all that these trees import, in order
abbrev pub leaves_of : List Lexeme → List UseTree → List Leaf
leaves_of lexemes trees = leaves_from lexemes [] trees
