-- Pairs of delimiters, in the words of nesting.
use Rattle.std.specs.Prelude.{◌≡◌, ◌<◌, ℕ, List, length, slice_index}
use Rattle.item_tree.specs.Delimiters.{partners_of}
use Rattle.item_tree.specs.Visibilities.{lexeme_at}
use Rattle.item_tree.specs.declared.lexer.lexeme.Delimiter.{Delimiter}
use Rattle.item_tree.specs.declared.lexer.lexeme.Lexeme.{Lexeme}
use Rattle.item_tree.specs.declared.lexer.lexeme.LexemeKind.TheVariants.{Open, Close}

-- at one place a delimiter opens, and at the other one of its kind closes
abbrev pub IsPair : List Lexeme → ℕ → ℕ → Type 0
IsPair ls i k = (d : Delimiter) × (lexeme_at ls i ≡ Open d) × (lexeme_at ls k ≡ Close d)

-- partners are lexemes, and each the other's; the first of two that differ opens and the second closes; and what
-- stands between has its partners between
pub record ArePartners (ls : List Lexeme) (partners : List ℕ) : Type 0 where
  pub all : length partners ≡ length ls
  pub within : (i : ℕ) → i < length ls → slice_index partners i < length ls
  pub both : (i : ℕ) → i < length ls → slice_index partners (slice_index partners i) ≡ i
  pub delimiters : (i : ℕ) → i < slice_index partners i → IsPair ls i (slice_index partners i)
  pub nested : (i k : ℕ) → i < k → k < slice_index partners i → (i < slice_index partners k) × (slice_index partners k < slice_index partners i)

abbrev pub PairsNest : Type 0
PairsNest = (ls : List Lexeme) → ArePartners ls (partners_of ls)
