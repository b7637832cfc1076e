-- Sets of places, as words of 64 bits, and a summary that tells which words have a bit.
use Rattle.std.specs.Prelude.{◌≡◌, ℕ, ◌/◌, ◌%◌, ◌<◌, ◌≤◌, ◌^◌, Bool, true, false, not, length, List, Option, None, Some, nat_eq, slice_index}
use Rattle.std.specs.Int.{bit_at}

-- the word at a place, 0 past the end
abbrev pub word : List ℕ → ℕ → ℕ
word ws j = slice_index ws j

-- whether the set has k
abbrev pub has : List ℕ → ℕ → Bool
has ws k = nat_eq (bit_at (word ws (k / 64)) (k % 64)) 1

-- the result is the least place from `from` on where f holds, or none where there is no such place
abbrev pub IsFirst : (ℕ → Bool) → ℕ → Option ℕ → Type 0
IsFirst f from None = (k : ℕ) → from ≤ k → f k ≡ false
IsFirst f from (Some i) = (from ≤ i) × (f i ≡ true) × ((k : ℕ) → from ≤ k → k < i → f k ≡ false)

-- the summary has the place of each word that is not 0, and no other
abbrev pub IsSummary : List ℕ → List ℕ → Type 0
IsSummary top ws = (j : ℕ) → has top j ≡ not (nat_eq (word ws j) 0)

-- words with a summary, which has room for each of them
pub record IsDirtySet (top : List ℕ) (ws : List ℕ) : Type 0 where
  pub summary : IsSummary top ws
  pub room : (j : ℕ) → j < length ws → j / 64 < length top
  pub few : (length ws ≤ 2 ^ 32) × (length top ≤ 2 ^ 32)

-- the result is the least place in the range where f holds, or none where there is no such place
abbrev pub IsFirstBelow : (ℕ → Bool) → ℕ → ℕ → Option ℕ → Type 0
IsFirstBelow f from end None = (k : ℕ) → from ≤ k → k < end → f k ≡ false
IsFirstBelow f from end (Some i) = IsFirst f from (Some i)

-- the result is the lowest bit of a word of 64 from `from` on, or none where there is no such bit
abbrev pub IsLowest : ℕ → ℕ → Option ℕ → Type 0
IsLowest w from None = ((i : ℕ) → from ≤ i → i < 64 → bit_at w i ≡ 0) × (from ≡ 0 → w ≡ 0)
IsLowest w from (Some r) = (from ≤ r) × (r < 64) × (bit_at w r ≡ 1) × ((i : ℕ) → from ≤ i → i < r → bit_at w i ≡ 0)
