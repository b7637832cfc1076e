-- An index of the names in paths: under each name the places of the imports that have it as a segment.
use Rattle.std.specs.Prelude.{◌≡◌, ℕ, ◌/◌, ◌<◌, Bool, true, false, List, [], ◌∷◌, length, nat_eq, slice_get}
use Rattle.std.specs.Option.{option_map_or}
use Rattle.std.specs.List.{list_any}
use Rattle.dm_base.specs.Names.{Name, find_name}
use Rattle.dm_retry.specs.Bits.{has}
use Rattle.dm_maps.specs.Cut.{among}
use Rattle.dm_retry.specs.Rounds.{Pending, marked_at}
use Rattle.dm_retry.specs.Unresolved.{AllDirty, is_dirty_at}

-- the entries of an index
abbrev pub Entries : Type 0
Entries = List (Name × List ℕ)

-- the places under a name
abbrev pub places_of : Entries → Name → List ℕ
places_of es n = option_map_or (λ ks. ks) (find_name n es) []

-- whether a place is one of those under a name
abbrev pub has_place : Entries → Name → ℕ → Bool
has_place es n k = list_any (nat_eq k) (places_of es n)

-- whether the import at a place has the name as a segment of its path
abbrev pub waits_for : List Pending → Name → ℕ → Bool
waits_for xs n k = option_map_or (λ x. among x.path.segments n) (slice_get xs k) false

-- the worklist after the imports at the places became dirty, one after another
abbrev pub all_marked : List ℕ → List Pending → List Pending
all_marked [] xs = xs
all_marked (k ∷ ks) xs = all_marked ks (marked_at xs k true)

-- the bits tell which imports are dirty, and have room for each
pub record Marks (words : List ℕ) (xs : List Pending) : Type 0 where
  pub dirty : (k : ℕ) → has words k ≡ is_dirty_at xs k
  pub room : (k : ℕ) → k < length xs → k / 64 < length words

-- the index has a place under a name exactly if the import there has the name as a segment
pub record Indexes (es : Entries) (xs : List Pending) : Type 0 where
  pub places : (n : Name) (k : ℕ) → has_place es n k ≡ waits_for xs n k

pub record IsKept (es : Entries) (words : List ℕ) (xs : List Pending) : Type 0 where
  pub indexed : Indexes es xs
  pub marks : Marks words xs

-- The index and the bits are kept; or there are none yet, and every import is dirty.
pub record IsReady (ready : Bool) (es : Entries) (words : List ℕ) (xs : List Pending) : Type 0 where
  pub kept : ready ≡ true → IsKept es words xs
  pub before : ready ≡ false → AllDirty xs
