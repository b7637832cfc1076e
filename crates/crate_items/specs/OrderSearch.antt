-- How the order of a graph's crates is found: depth first.
use Rattle.std.specs.Prelude.{◌≡◌, ◌≢◌, ◌+◌, ◌-◌, ◌<◌, ◌≤◌, ◌++◌, ◌⊎◌, ℕ, List, [], ◌∷◌, Option, Some, None, length, map, take, replicate, sum, slice_index, slice_index_or, slice_set}
use Rattle.crate_items.specs.CrateGraphs.{DependsOn, row}

-- a search as far as it has come: for each crate 0 where it stands in the order, and else one more than how many of its dependencies are not
-- looked at yet; for each crate its place on the path; the path, on which each crate depends on the next one; the order
pub record State : Type 0 where
  pub left : List ℕ
  pub places : List (Option ℕ)
  pub path : List ℕ
  pub order : List ℕ

abbrev pub started : List (List ℕ) → State
started rs = record { left = map (λ r. length r + 1) rs; places = replicate (length rs) None; path = []; order = [] }

-- one more dependency of a crate is looked at
abbrev pub looked : ℕ → State → State
looked c s = record s { left = slice_set s.left c (slice_index s.left c - 1) }

-- a crate is put on the path
abbrev pub opened : ℕ → State → State
opened c s = record s { places = slice_set s.places c (Some (length s.path)); path = s.path ++ c ∷ [] }

-- the last crate of the path is taken from it and put into the order
abbrev pub closed : ℕ → State → State
closed c s = record {
  left = slice_set s.left c 0;
  places = slice_set s.places c None;
  path = take (length s.path - 1) s.path;
  order = s.order ++ c ∷ [];
}

-- the last crate of the path
abbrev pub IsLast : State → ℕ → Type 0
IsLast s c = (m : ℕ) × (m + 1 ≡ length s.path) × (slice_index s.path m ≡ c)

-- a crate stands in the order
abbrev pub IsListed : State → ℕ → Type 0
IsListed s c = (j : ℕ) × (j < length s.order) × (slice_index s.order j ≡ c)

-- a crate stands on the path, right below another one
abbrev pub IsBelow : State → ℕ → ℕ → Type 0
IsBelow s a b = (i : ℕ) × (i + 1 < length s.path) × (slice_index s.path i ≡ a) × (slice_index s.path (i + 1) ≡ b)

abbrev pub left_of : State → ℕ → ℕ
left_of s c = slice_index s.left c

abbrev pub place_of : State → ℕ → Option ℕ
place_of s c = slice_index_or s.places c None

pub record IsSearch (rs : List (List ℕ)) (s : State) : Type 0 where
  pub lefts : length s.left ≡ length rs
  pub spots : length s.places ≡ length rs
  pub at_most : (c : ℕ) → c < length rs → left_of s c ≤ length (row rs c) + 1
  pub on_path : (i : ℕ) → i < length s.path → (slice_index s.path i < length rs) × (0 < left_of s (slice_index s.path i)) × (place_of s (slice_index s.path i) ≡ Some i)
  pub placed : (c i : ℕ) → place_of s c ≡ Some i → (i < length s.path) × (slice_index s.path i ≡ c)
  pub chain : (i : ℕ) → i + 1 < length s.path → DependsOn rs (slice_index s.path i) (slice_index s.path (i + 1))
  pub seen : (c k : ℕ) → c < length rs → k < length (row rs c) → k + left_of s c ≤ length (row rs c) → (left_of s (slice_index (row rs c) k) ≡ 0) ⊎ IsBelow s c (slice_index (row rs c) k)
  pub listed : (c : ℕ) → c < length rs → left_of s c ≡ 0 → IsListed s c
  pub done : (j : ℕ) → j < length s.order → (slice_index s.order j < length rs) × (left_of s (slice_index s.order j) ≡ 0)
  pub once : (i j : ℕ) → i < j → j < length s.order → slice_index s.order i ≢ slice_index s.order j
  pub before : (j b : ℕ) → j < length s.order → DependsOn rs (slice_index s.order j) b → (i : ℕ) × (i < j) × (slice_index s.order i ≡ b)

-- a search from a crate has begun: the crate is in the order, or the first of the path
abbrev pub HasBegun : State → ℕ → Type 0
HasBegun s r = (left_of s r ≡ 0) ⊎ ((0 < length s.path) × (slice_index s.path 0 ≡ r))

-- what a crate depends on next is in the order, or was put on the path
pub record Meets (rs : List (List ℕ)) (old new : State) (c next : ℕ) : Type 0 where
  pub kept : IsSearch rs new
  pub met : (left_of new next ≡ 0) ⊎ IsBelow new c next
  pub left : new.left ≡ old.left
  pub begun : (r : ℕ) → HasBegun old r → HasBegun new r

-- a search that is one step further
pub record GoesOn (rs : List (List ℕ)) (old new : State) : Type 0 where
  pub kept : IsSearch rs new
  pub less : sum new.left + 1 ≡ sum old.left
  pub done : (c : ℕ) → left_of old c ≡ 0 → left_of new c ≡ 0
  pub begun : (r : ℕ) → HasBegun old r → HasBegun new r

-- a search from a crate that is through
pub record Ends (rs : List (List ℕ)) (old new : State) (root : ℕ) : Type 0 where
  pub kept : IsSearch rs new
  pub idle : length new.path ≡ 0
  pub done : (c : ℕ) → left_of old c ≡ 0 → left_of new c ≡ 0
  pub through : left_of new root ≡ 0
