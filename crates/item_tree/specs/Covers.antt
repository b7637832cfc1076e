-- What lies in order, with nothing between.
use Rattle.std.specs.Prelude.{◌≡◌, ◌<◌, ◌≤◌, ℕ, List, [], ◌∷◌, Option, IfSome, length}
use Rattle.std.specs.List.{AllByRecursion}
use Rattle.item_tree.specs.Items.{level_of, inner_level}
use Rattle.item_tree.specs.declared.items.Item.{Item}
use Rattle.item_tree.specs.declared.items.Level.{Level}
use Rattle.item_tree.specs.declared.items.Range.{Range}
use Rattle.item_tree.specs.declared.lexer.lexeme.Lexeme.{Lexeme}

-- each begins where the one before it ends, the first and the last where they should, and each has a lexeme
abbrev pub Cover : ℕ → ℕ → List Item → Type 0
Cover first behind [] = first ≡ behind
Cover first behind (x ∷ xs) = (x.first ≡ first) × (first < x.behind) × Cover x.behind behind xs

-- a range of lexemes
abbrev pub IsRange : ℕ → Range → Type 0
IsRange size r = (r.first ≤ r.behind) × (r.behind ≤ size)

-- one range lies within another
abbrev pub LiesWithin : Range → Range → Type 0
LiesWithin outer r = (outer.first ≤ r.first) × (r.first ≤ r.behind) × (r.behind ≤ outer.behind)

-- each lexeme of a level lies in one item, error or inner attribute of it
abbrev pub LevelsAreCovered : Type 0
LevelsAreCovered =
    (lexemes : List Lexeme) (partners : List ℕ) (parent : Option ℕ) (l : Level) → IsRange (length lexemes) l.range → Cover l.range.first l.range.behind (level_of lexemes partners parent l)

abbrev pub IsWithin : Range → Item → Type 0
IsWithin r x = IfSome (inner_level x) (λ (l : Level). LiesWithin r l.range)

-- and what is in an item lies within the level
abbrev pub LevelsNest : Type 0
LevelsNest = (lexemes : List Lexeme) (partners : List ℕ) (parent : Option ℕ) (l : Level) → AllByRecursion (IsWithin l.range) (level_of lexemes partners parent l)
