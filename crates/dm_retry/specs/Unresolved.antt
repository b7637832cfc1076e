-- Which imports of a worklist are dirty: something that they may need has changed since their last try.
use Rattle.std.specs.Prelude.{◌≡◌, ℕ, Bool, true, false, List, Some, slice_get}
use Rattle.std.specs.Option.{option_map_or}
use Rattle.dm_retry.specs.Rounds.{Pending}

-- whether the import at place k is dirty: not past the last
abbrev pub is_dirty_at : List Pending → ℕ → Bool
is_dirty_at ps k = option_map_or (λ (p : Pending). p.due) (slice_get ps k) false

-- every import is dirty
abbrev pub AllDirty : List Pending → Type 0
AllDirty ps = (k : ℕ) (p : Pending) → slice_get ps k ≡ Some p → p.due ≡ true
