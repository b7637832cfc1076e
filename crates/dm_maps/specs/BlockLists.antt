-- The blocks of each crate, as a builder lists them.
use Rattle.std.specs.Prelude.{◌≡◌, ℕ, List, [], Some, length, map, slice_get, slice_set}
use Rattle.std.specs.Option.{option_map_or}
use Rattle.dm_base.specs.declared.ids.BlockId.{BlockId}
use Rattle.dm_base.specs.declared.ids.Crate.{Crate}
use Rattle.dm_def_map.specs.Maps.{Map}

-- a list with f of its entry of number k, where there is one
abbrev pub entry_with : {X : Type 0} → List X → ℕ → (X → X) → List X
entry_with xs k f = option_map_or (λ x. slice_set xs k (f x)) (slice_get xs k) xs

-- the crate of each map
abbrev pub crates_of : List Map → List Crate
crates_of ms = map (λ m. m.id.krate) ms

-- list k; none where there are no more
abbrev pub list_at : List (List BlockId) → ℕ → List BlockId
list_at ls k = option_map_or (λ l. l) (slice_get ls k) []

-- block b is in a list
abbrev pub HasBlock : List BlockId → ℕ → Type 0
HasBlock l b = (i : ℕ) × (slice_get l i ≡ Some (record { 0 = b }))

-- Of n crates, and of blocks that lie in the crates ks: each crate has a list, and each block is in its crate's.
pub record AreGathered (n : ℕ) (ks : List Crate) (ls : List (List BlockId)) : Type 0 where
  pub count : length ls ≡ n
  pub each : (b : ℕ) (k : Crate) → slice_get ks b ≡ Some k → HasBlock (list_at ls k.0) b

-- each map of crate k is one of a list's blocks
abbrev pub HoldsAll : Crate → List Map → List BlockId → Type 0
HoldsAll k ms l = (b : ℕ) → slice_get (crates_of ms) b ≡ Some k → HasBlock l b

-- the map of each crate is that of its number
abbrev pub AreNumbered : List Map → Type 0
AreNumbered ms = (j : ℕ) (m : Map) → slice_get ms j ≡ Some m → m.id.krate.0 ≡ j
