-- Worked examples in a small tree: which modules see what, and the most and the least permissive of two visibilities.
--
-- Crate 0 has the modules 0 (its root), 1 in 0, 2 in 1, 3 in 0 and 7 in 0; block 0 in module 1 and block 1 in module 0.
-- Block 0 has the modules 5 (its root) and 6 in 5, block 1 has 8 alone. Crate 1 has its root, module 4.
use Rattle.std.specs.Prelude.{◌≡◌, ℕ, Bool, true, false, Option, Some, None, List, [], ◌∷◌, nat_lt, slice_get, refl}
use Rattle.std.specs.Option.{option_and_then, option_map_or}
use Rattle.dm_base.specs.declared.ids.ModuleId.{ModuleId}
use Rattle.dm_base.specs.declared.ids.Crate.{Crate}
use Rattle.dm_base.specs.declared.ids.MapId.{MapId}
use Rattle.dm_base.specs.declared.visibility.VisibilityExplicitness.TheVariants.{Explicit, Implicit}
use Rattle.dm_base.specs.declared.visibility.Visibility.{Visibility}
use Rattle.dm_base.specs.declared.visibility.Visibility.TheVariants.{Module, PubCrate, Public}
use Rattle.dm_base.specs.Tree.{Tree, sees}
use Rattle.dm_base.specs.Visibility.{max_of, min_of}

abbrev m : ℕ → ModuleId
m n = record { 0 = n }

abbrev krate : ℕ → Crate
krate n = record { 0 = n }

-- the map of a crate, and of a block of crate 0
abbrev c : ℕ → MapId
c n = record { krate = krate n; block = None }

abbrev b : ℕ → MapId
b n = record { krate = krate 0; block = Some (record { 0 = n }) }

-- each module's map and parent, by number
abbrev places : List (MapId × Option ModuleId)
places =
    (c 0, None) ∷ (c 0, Some (m 0)) ∷ (c 0, Some (m 1)) ∷ (c 0, Some (m 0)) ∷ (c 1, None)
    ∷ (b 0, None) ∷ (b 0, Some (m 5)) ∷ (c 0, Some (m 0)) ∷ (b 1, None) ∷ []

abbrev blocks : List ModuleId
blocks = m 1 ∷ m 0 ∷ []

abbrev tree : Tree
tree = record {
  has = λ n. nat_lt n.0 9;
  map_of = λ n. option_map_or (λ p. p.0) (slice_get places n.0) (c 0);
  parent = λ n. option_and_then (λ p. p.1) (slice_get places n.0);
  inside = λ n. slice_get blocks n.0;
}

-- `in:N:implicit`, and the module from which the item is seen
abbrev inside : ℕ → Visibility
inside n = Module (m n) Implicit

abbrev seen : Visibility → ℕ → Bool
seen v f = sees tree v (m f)

-- a block's root is seen from the module that contains the block, and so is a module below that root; other modules do
-- not see it
root_from_outside : seen (inside 5) 1 ≡ true
root_from_outside = refl

member_from_outside : seen (inside 6) 1 ≡ true
member_from_outside = refl

member_from_further_out : seen (inside 6) 0 ≡ false
member_from_further_out = refl

member_from_root : seen (inside 6) 5 ≡ false
member_from_root = refl

-- a crate's item
crate_from_own : seen (PubCrate (krate 1)) 4 ≡ true
crate_from_own = refl

crate_from_other : seen (PubCrate (krate 1)) 0 ≡ false
crate_from_other = refl

-- one module above the other
max_above : max_of tree (c 0) (inside 1) (inside 2) ≡ Some (inside 1)
max_above = refl

min_above : min_of tree (c 0) (inside 1) (inside 2) ≡ Some (inside 2)
min_above = refl

-- neither above the other
max_apart : max_of tree (c 0) (inside 2) (inside 3) ≡ None
max_apart = refl

min_apart : min_of tree (c 0) (inside 2) (inside 3) ≡ None
min_apart = refl

-- one module of another map
max_outside : max_of tree (c 0) (inside 5) (inside 1) ≡ None
max_outside = refl

-- one module twice
max_twice : max_of tree (c 0) (inside 1) (Module (m 1) Explicit) ≡ Some (Module (m 1) Explicit)
max_twice = refl

-- two crates, a module of another crate, everyone
max_crates : max_of tree (c 0) (PubCrate (krate 0)) (PubCrate (krate 1)) ≡ None
max_crates = refl

min_other_crate : min_of tree (c 0) (inside 4) (PubCrate (krate 0)) ≡ None
min_other_crate = refl

min_public : min_of tree (c 0) Public (inside 4) ≡ Some (inside 4)
min_public = refl

-- two modules of a block, in the block's map and in another
max_in_block : max_of tree (b 0) (inside 5) (inside 6) ≡ Some (inside 5)
max_in_block = refl

min_in_block : min_of tree (b 0) (inside 5) (inside 6) ≡ Some (inside 6)
min_in_block = refl

min_of_block_elsewhere : min_of tree (c 0) (inside 5) (inside 6) ≡ None
min_of_block_elsewhere = refl
