-- Where a raw string ends, in its grammar's words.
use Rattle.std.specs.Prelude.{◌≡◌, ◌≤◌, ◌++◌, ℕ, List, ◌∷◌, Some, length, replicate}
use Rattle.item_tree.specs.Shapes.{past_raw}

-- a quote and n hashes
abbrev pub closing : ℕ → List ℕ
closing n = 34 ∷ replicate n 35

-- what is left behind the end stands behind a quote and n hashes
abbrev pub EndsAtClosing : Type 0
EndsAtClosing = (n : ℕ) (text rest : List ℕ) → past_raw n 0 text ≡ Some rest → (body : List ℕ) × (text ≡ body ++ (closing n ++ rest))

-- and behind each other quote with n hashes no more is left
abbrev pub EndsAtFirst : Type 0
EndsAtFirst = (n : ℕ) (before behind rest : List ℕ) → past_raw n 0 (before ++ (closing n ++ behind)) ≡ Some rest → length behind ≤ length rest
