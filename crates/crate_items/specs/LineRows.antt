-- Lines and columns of some offsets.
use Rattle.std.specs.Prelude.{◌≡◌, ℕ, [], ◌∷◌, codes, map}
use Rattle.crate_items.specs.declared.files.line_index.LineCol.{LineCol}
use Rattle.crate_items.specs.LineIndexes.{line_col}

abbrev pub at : ℕ → ℕ → LineCol
at line col = record { line = line; col = col }

-- a newline is the last of its line
abbrev pub Lines : Type 0
Lines = map (line_col (codes "a\nbc\n\nd")) (0 ∷ 1 ∷ 2 ∷ 4 ∷ 5 ∷ 6 ∷ 7 ∷ []) ≡ at 1 1 ∷ at 1 2 ∷ at 2 1 ∷ at 2 3 ∷ at 3 1 ∷ at 4 1 ∷ at 4 2 ∷ []

-- a character of two bytes takes one column, and so does a tab
abbrev pub Characters : Type 0
Characters = map (line_col (195 ∷ 169 ∷ 9 ∷ 120 ∷ [])) (0 ∷ 2 ∷ 3 ∷ 4 ∷ []) ≡ at 1 1 ∷ at 1 2 ∷ at 1 3 ∷ at 1 4 ∷ []

-- a byte order mark takes none
abbrev pub OrderMark : Type 0
OrderMark = map (line_col (239 ∷ 187 ∷ 191 ∷ 97 ∷ 10 ∷ 98 ∷ [])) (0 ∷ 3 ∷ 4 ∷ 5 ∷ 6 ∷ []) ≡ at 1 1 ∷ at 1 1 ∷ at 1 2 ∷ at 2 1 ∷ at 2 2 ∷ []

-- a carriage return before a newline takes no column, and any other does
abbrev pub Returns : Type 0
Returns = map (line_col (97 ∷ 13 ∷ 10 ∷ 98 ∷ 13 ∷ 99 ∷ [])) (1 ∷ 2 ∷ 3 ∷ 4 ∷ 5 ∷ 6 ∷ []) ≡ at 1 2 ∷ at 1 2 ∷ at 2 1 ∷ at 2 2 ∷ at 2 3 ∷ at 2 4 ∷ []

-- of two before a newline one does
abbrev pub TwoReturns : Type 0
TwoReturns = map (line_col (13 ∷ 13 ∷ 10 ∷ [])) (0 ∷ 1 ∷ 2 ∷ 3 ∷ []) ≡ at 1 1 ∷ at 1 2 ∷ at 1 2 ∷ at 2 1 ∷ []

-- the newline of `b'\r\n'` stands behind its quote
abbrev pub QuotedReturn : Type 0
QuotedReturn = map (line_col (98 ∷ 39 ∷ 13 ∷ 10 ∷ 39 ∷ [])) (2 ∷ 3 ∷ 4 ∷ []) ≡ at 1 3 ∷ at 1 3 ∷ at 2 1 ∷ []
