-- In which lists use trees stand.
use Rattle.std.specs.Prelude.{◌≡◌, ◌<◌, ℕ, List, Option, Some, None, IfSome, slice_get}
use Rattle.item_tree.specs.UseTrees.{use_trees_of}
use Rattle.item_tree.specs.declared.items.Range.{Range}
use Rattle.item_tree.specs.declared.lexer.lexeme.Lexeme.{Lexeme}
use Rattle.item_tree.specs.declared.items.use_tree.UseTree.{UseTree}
use Rattle.item_tree.specs.declared.items.use_tree.UseTreeKind.{UseTreeKind}
use Rattle.item_tree.specs.declared.items.use_tree.UseTreeKind.TheVariants as tree

abbrev pub kind_of : Option UseTree → UseTreeKind
kind_of None = tree.Error
kind_of (Some t) = t.kind

-- the tree of that number, if any, is a list, and stands before the place n
abbrev pub IsListBefore : List UseTree → ℕ → Option ℕ → Type 0
IsListBefore trees n parent = IfSome parent (λ p. (p < n) × (kind_of (slice_get trees p) ≡ tree.Prefixed))

-- each stands behind the list that it is in
abbrev pub StandInLists : List UseTree → Type 0
StandInLists trees = (n : ℕ) (t : UseTree) → slice_get trees n ≡ Some t → IsListBefore trees n t.parent

abbrev pub UseTreesStandInLists : Type 0
UseTreesStandInLists = (lexemes : List Lexeme) (range : Range) → StandInLists (use_trees_of lexemes range)
