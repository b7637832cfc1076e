-- The jump pointers of modules (binary lifting), which are their ladders.
use Rattle.std.specs.Prelude.{◌≡◌, ◌≢◌, ◌<◌, ◌≤◌, ℕ, zero, suc, List, Option, None, Some, length, map, slice_get, slice_index, nat_eq, nat_lt, unwrap_or, if◌then◌else◌}
use Rattle.std.specs.Option.{option_and_then, option_map_or}
use Rattle.dm_base.specs.declared.ids.ModuleId.{ModuleId}
use Rattle.dm_base.specs.Tree.{Tree, containing}
use Rattle.dm_maps.specs.declared.ladders.Ladder.{Ladder}

-- the containing module, or the module itself where nothing contains it
abbrev pub up : Tree → ModuleId → ModuleId
up t m = unwrap_or (containing t m) m

-- where n steps outwards lead, as far as there are modules
abbrev pub climb : Tree → ℕ → ModuleId → ModuleId
climb t zero m = m
climb t (suc n) m = climb t n (up t m)

-- the tree of modules that the list gives their containing modules
abbrev pub tree_above : List (Option ModuleId) → Tree
tree_above ups = record {
  has = λ m. nat_lt m.0 (length ups);
  map_of = λ m. record { krate = record { 0 = 0 }; block = None };
  parent = λ m. option_and_then (λ c. c) (slice_get ups m.0);
  inside = λ b. None;
}

-- the containing module by a ladder: its first entry, unless the module is outmost
abbrev pub above : Ladder → Option ModuleId
above l = if nat_eq l.depth 0 then None else Some (record { 0 = slice_index l.entries 0 })

abbrev pub tree_of : List Ladder → Tree
tree_of ls = tree_above (map above ls)

-- the depth of module m, and entry k of its ladder
abbrev pub depth_at : List Ladder → ℕ → ℕ
depth_at ls m = option_map_or (λ l. l.depth) (slice_get ls m) 0

abbrev pub entry_at : List Ladder → ℕ → ℕ → ℕ
entry_at ls m k = option_map_or (λ l. slice_index l.entries k) (slice_get ls m) 0

-- of a module below another: one deeper than that, which is entry 0; and entry k + 1 is entry k of entry k
pub record IsBelow (ls : List Ladder) (m : ℕ) (l : Ladder) : Type 0 where
  pub smaller : (k : ℕ) → k < 32 → slice_index l.entries k < m
  pub deeper : l.depth ≡ suc (depth_at ls (slice_index l.entries 0))
  pub entries : (k : ℕ) → k < 31 → slice_index l.entries (suc k) ≡ entry_at ls (slice_index l.entries k) k

-- The ladder of module m: each entry of an outmost module is the module itself.
pub record IsLadder (ls : List Ladder) (m : ℕ) (l : Ladder) : Type 0 where
  pub long : length l.entries ≡ 32
  pub shallow : l.depth ≤ m
  pub outmost : l.depth ≡ 0 → (k : ℕ) → k < 32 → slice_index l.entries k ≡ m
  pub below : l.depth ≢ 0 → IsBelow ls m l

pub record AreLadders (ls : List Ladder) : Type 0 where
  pub each : (m : ℕ) (l : Ladder) → slice_get ls m ≡ Some l → IsLadder ls m l
