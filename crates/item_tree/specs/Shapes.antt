-- The shapes of tokens, each as a check of bytes: where the shape that begins a text ends.
use Rattle.std.specs.Prelude.{◌==◌, ◌+◌, ◌-◌, ◌&&◌, ℕ, Bool, true, false, not, List, [], ◌∷◌, Option, Some, None, nat_lt, if◌then◌else◌}
use Rattle.std.specs.List.{list_all}

-- the first byte is there, and passes p
abbrev pub begins : (ℕ → Bool) → List ℕ → Bool
begins p [] = false
begins p (x ∷ xs) = p x

abbrev pub is_no_newline : ℕ → Bool
is_no_newline b = not (b == 10)

-- all of the piece passes p, and what follows it does not begin with a byte that does
abbrev pub is_longest_run : (ℕ → Bool) → List ℕ → List ℕ → Bool
is_longest_run p piece rest = list_all p piece && not (begins p rest)

-- a backslash that is not escaped itself escapes the next byte
abbrev pub is_escape : Bool → ℕ → Bool
is_escape escaped x = not escaped && (x == 92)

-- what is left of a text behind the quote that ends it; a byte behind a backslash ends nothing
abbrev pub past_quote : ℕ → Bool → List ℕ → Option (List ℕ)
past_quote quote escaped [] = None
past_quote quote escaped (x ∷ xs) = if not escaped && (x == quote) then Some xs else past_quote quote (is_escape escaped x) xs

-- what is left of a text behind `*/`, where depth more comments are open; before is the byte before it, or 0
-- where that belongs to a `/*` or a `*/`
abbrev pub past_comment : ℕ → ℕ → List ℕ → Option (List ℕ)
past_comment depth before [] = None
past_comment depth before (x ∷ xs) =
    if (before == 47) && (x == 42) then past_comment (depth + 1) 0 xs
    else if (before == 42) && (x == 47) then (if depth == 0 then Some xs else past_comment (depth - 1) 0 xs)
    else past_comment depth x xs

-- how many bytes of a quote and hashes stand right before, after one more byte
abbrev pub matched_with : ℕ → ℕ → ℕ
matched_with matched x = if x == 34 then 1 else if (x == 35) && not (matched == 0) then matched + 1 else 0

-- what is left of a text behind the first quote that n hashes follow, and those hashes
abbrev pub past_raw : ℕ → ℕ → List ℕ → Option (List ℕ)
past_raw n matched [] = None
past_raw n matched (x ∷ xs) = if nat_lt n (matched_with matched x) then Some xs else past_raw n (matched_with matched x) xs

-- the end of the shape is the end of the text
abbrev pub is_exact : Option (List ℕ) → Bool
is_exact None = false
is_exact (Some []) = true
is_exact (Some (x ∷ xs)) = false
