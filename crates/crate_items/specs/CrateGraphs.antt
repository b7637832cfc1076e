-- Graphs of crates, their orders and their circles.
use Rattle.std.specs.Prelude.{◌≡◌, ◌≢◌, ◌+◌, ◌-◌, ◌<◌, ◌≤◌, ◌^◌, ◌++◌, ℕ, Bool, zero, suc, List, [], ◌∷◌, length, map, All, slice_index, slice_index_or}
use Rattle.dm_base.specs.declared.ids.Crate.{Crate}
use Rattle.dm_base.specs.declared.ids.FileId.{FileId}
use Rattle.dm_base.specs.declared.edition.Edition.{Edition}
use Rattle.crate_items.specs.declared.files.dependency.Dependency.{Dependency}
use Rattle.item_tree.specs.declared.cfg.CfgAtom.{CfgAtom}

-- what a graph has of a crate
pub record Data : Type 0 where
  pub root_file_id : FileId
  pub edition : Edition
  pub cfg_options : List CfgAtom
  pub is_proc_macro : Bool
  pub dependencies : List Dependency

-- its crates by their numbers
abbrev pub Graph : Type 0
Graph = List Data

-- the crates are there that a crate of so many depends on
abbrev pub AreKnown : ℕ → Data → Type 0
AreKnown count c = All (λ (d : Dependency). d.crate_id.0 < count) c.dependencies

-- each dependency is of a crate that is there, and each crate has a number
pub record IsGraph (g : Graph) : Type 0 where
  pub known : All (AreKnown (length g)) g
  pub numbered : length g ≤ 2 ^ 32

-- a crate with one more dependency
abbrev pub with_dependency : Dependency → Data → Data
with_dependency d c = record c { dependencies = c.dependencies ++ d ∷ [] }

-- a graph with one more dependency of a crate
abbrev pub with_edge : Graph → ℕ → Dependency → Graph
with_edge [] n d = []
with_edge (c ∷ cs) zero d = with_dependency d c ∷ cs
with_edge (c ∷ cs) (suc n) d = c ∷ with_edge cs n d

-- the numbers of some crates
abbrev pub numbers : List Crate → List ℕ
numbers crates = map (λ c. c.0) crates

-- for each crate the numbers of those that it depends on
abbrev pub needs : Data → List ℕ
needs c = map (λ (d : Dependency). d.crate_id.0) c.dependencies

abbrev pub rows : Graph → List (List ℕ)
rows g = map needs g

-- the numbers of those that a crate depends on
abbrev pub row : List (List ℕ) → ℕ → List ℕ
row rs a = slice_index_or rs a []

-- a crate depends on another, or on itself
abbrev pub DependsOn : List (List ℕ) → ℕ → ℕ → Type 0
DependsOn rs a b = (k : ℕ) × (k < length (row rs a)) × (slice_index (row rs a) k ≡ b)

-- all these are crates of the graph
abbrev pub AreInside : List (List ℕ) → Type 0
AreInside rs = (a k : ℕ) → a < length rs → k < length (row rs a) → slice_index (row rs a) k < length rs

-- each crate stands in the order once, and each that it depends on stands before it
pub record IsOrder (rs : List (List ℕ)) (order : List ℕ) : Type 0 where
  pub all : (c : ℕ) → c < length rs → (j : ℕ) × (j < length order) × (slice_index order j ≡ c)
  pub crates : (j : ℕ) → j < length order → slice_index order j < length rs
  pub once : (i j : ℕ) → i < j → j < length order → slice_index order i ≢ slice_index order j
  pub before : (j b : ℕ) → j < length order → DependsOn rs (slice_index order j) b → (i : ℕ) × (i < j) × (slice_index order i ≡ b)

-- some crates of which each depends on the next, and the last on the first
pub record IsCircle (rs : List (List ℕ)) (circle : List ℕ) : Type 0 where
  pub some : 0 < length circle
  pub next : (i : ℕ) → i + 1 < length circle → DependsOn rs (slice_index circle i) (slice_index circle (i + 1))
  pub back : DependsOn rs (slice_index circle (length circle - 1)) (slice_index circle 0)
