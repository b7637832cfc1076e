-- Lines and columns of offsets, as rustc prints them: from 1 on, and a column for each character.
use Rattle.std.specs.Prelude.{◌==◌, ◌+◌, ◌-◌, ◌||◌, ◌&&◌, ℕ, Bool, List, [], ◌∷◌, drop, take, fold, max, count_by, nat_eq, nat_le, nat_lt, if◌then◌else◌}
use Rattle.std.specs.List.{starts_with}
use Rattle.crate_items.specs.declared.files.line_index.LineCol.{LineCol}

abbrev pub is_newline : ℕ → Bool
is_newline b = b == 10

-- a byte that is the first of a character in UTF-8
abbrev pub begins_char : ℕ → Bool
begins_char b = nat_lt b 128 || nat_le 192 b

-- the column behind a byte: a newline begins anew, and each character takes one
abbrev pub next_column : ℕ → ℕ → ℕ
next_column column b = if is_newline b then 1 else if begins_char b then column + 1 else column

-- the column that a text begins at: a byte order mark takes none
abbrev pub first_column : List ℕ → ℕ
first_column text = if starts_with nat_eq text (239 ∷ 187 ∷ 191 ∷ []) then 0 else 1

-- the line and the column behind so many bytes
abbrev pub line_col_at : List ℕ → ℕ → LineCol
line_col_at text offset = record {
  line = count_by is_newline (take offset text) + 1;
  col = max (fold next_column (first_column text) (take offset text)) 1;
}

-- an offset with a carriage return before it and its newline behind it
abbrev pub is_split : List ℕ → ℕ → Bool
is_split text offset = nat_lt 0 offset && starts_with nat_eq (drop (offset - 1) text) (13 ∷ 10 ∷ [])

-- a carriage return and a newline are read as a newline, which stands where they begin
abbrev pub read_at : List ℕ → ℕ → ℕ
read_at text offset = if is_split text offset then offset - 1 else offset

-- the line and the column of an offset
abbrev pub line_col : List ℕ → ℕ → LineCol
line_col text offset = line_col_at text (read_at text offset)

-- the offsets behind the newlines of a text that begins at an offset
abbrev pub starts_from : ℕ → List ℕ → List ℕ
starts_from i [] = []
starts_from i (b ∷ bs) = if is_newline b then (i + 1) ∷ starts_from (i + 1) bs else starts_from (i + 1) bs
