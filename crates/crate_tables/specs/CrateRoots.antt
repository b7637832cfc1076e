-- The crates of a graph in a builder, each with its root alone, and their extern preludes.
use Rattle.std.specs.Prelude.{◌≡◌, ◌<◌, ◌+◌, ◌&&◌, ◌||◌, ℕ, Bool, true, false, not, IsTrue, List, [], ◌∷◌, None, Some, codes, take, if◌then◌else◌}
use Rattle.std.specs.List.{list_any}
use Rattle.std.specs.Str.{bytes_eq}
use Rattle.crate_items.specs.declared.items.crate_attributes.CrateAttribute.{CrateAttribute}
use Rattle.crate_items.specs.declared.items.crate_attributes.CrateAttribute.TheVariants as sets
use Rattle.crate_items.specs.CrateGraphs.{Graph}
use Rattle.crate_items.specs.declared.files.dependency.Dependency.{Dependency}
use Rattle.dm_maps.specs.declared.check.held.HeldId.{HeldId}
use Rattle.dm_maps.specs.declared.check.held.HeldId.TheVariants as held
use Rattle.crate_tables.specs.NewModules.{in_edition}
use Rattle.dm_base.specs.Names.{Name, same_name}
use Rattle.dm_base.specs.declared.ids.Crate.{Crate}
use Rattle.dm_base.specs.declared.ids.ModuleId.{ModuleId}
use Rattle.dm_maps.specs.Build.{with_crate}
use Rattle.dm_maps.specs.BuildMaps.{with_extern_of}
use Rattle.dm_maps.specs.Known.{knows, KnowsAll}
use Rattle.dm_maps.specs.Readings.{root_of}
use Rattle.dm_maps.specs.World.{World}

-- Each crate is added with its root, in order.
abbrev pub with_roots : World → Graph → World
with_roots w [] = w
with_roots w (c ∷ cs) = with_roots (with_crate w c.edition (in_edition c.edition c.root_file_id)) cs

-- so the roots are the first modules: that of a crate has the crate's number
abbrev pub root_id : Crate → ModuleId
root_id k = record { 0 = k.0 }

-- the crate is the builder's, and so is its root
pub record HasRoot (w : World) (k : Crate) : Type 0 where
  pub krate : IsTrue (knows w (held.Crate k))
  pub root : IsTrue (knows w (held.Module (root_id k)))
  pub is_root : root_of w k ≡ Some (root_id k)

-- each crate of so many is there with its root
abbrev pub HasRoots : World → ℕ → Type 0
HasRoots w count = (k : Crate) → k.0 < count → HasRoot w k

-- what is known of a crate that is there: its number, and its root
abbrev pub root_holds : Crate → List HeldId
root_holds k = held.Crate k ∷ held.Module (root_id k) ∷ []

-- each crate of so many is known, and its root
abbrev pub KnowsRoots : World → ℕ → Type 0
KnowsRoots w count = (k : Crate) → k.0 < count → KnowsAll w (root_holds k)

-- ---- Extern preludes

abbrev pub is_no_std : CrateAttribute → Bool
is_no_std sets.NoStd = true
is_no_std _ = false

abbrev pub is_no_core : CrateAttribute → Bool
is_no_core sets.NoCore = true
is_no_core _ = false

-- a name that the attributes of a crate take out of its extern prelude: `std` under `no_std`, and `core` under `no_core`
abbrev pub is_without : List CrateAttribute → Name → Bool
is_without attrs n =
    (list_any is_no_std attrs && bytes_eq n (codes "std")) || (list_any is_no_core attrs && bytes_eq n (codes "core"))

-- a dependency whose name is in the extern prelude: it says so, and no attribute takes it out
abbrev pub is_named : List CrateAttribute → Dependency → Bool
is_named attrs d = d.prelude && not (is_without attrs d.name)

-- a name that a dependency among some has in the extern prelude
abbrev pub is_taken : List Dependency → Name → Bool
is_taken ds n = list_any (λ (d : Dependency). d.prelude && same_name d.name n) ds

-- a dependency is in the extern prelude of a crate where its name is, and none before it has that name there
abbrev pub is_extern : List CrateAttribute → List Dependency → Dependency → Bool
is_extern attrs before d = is_named attrs d && not (is_taken before d.name)

abbrev pub with_extern : World → Crate → List CrateAttribute → List Dependency → Dependency → World
with_extern w k attrs before d = if is_extern attrs before d then with_extern_of w k d.name (root_id d.crate_id) None else w

-- Each of these, the first of which has this number among all, is added behind those before it, with the root of its crate.
abbrev pub with_externs_from : World → Crate → List CrateAttribute → List Dependency → ℕ → List Dependency → World
with_externs_from w k attrs all n [] = w
with_externs_from w k attrs all n (d ∷ ds) =
    with_externs_from (with_extern w k attrs (take n all) d) k attrs all (n + 1) ds

abbrev pub with_externs : World → Crate → List CrateAttribute → List Dependency → World
with_externs w k attrs all = with_externs_from w k attrs all 0 all
