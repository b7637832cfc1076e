-- How it is seen that def maps are supported: at the names that are bound, and at those that could be.
use Rattle.std.specs.Prelude.{◌≡◌, ◌<◌, ℕ, Contains, List, [], Option, map, slice_get}
use Rattle.std.specs.Option.{option_map, option_map_or, option_or}
use Rattle.dm_base.specs.declared.ids.ModuleId.{ModuleId}
use Rattle.dm_base.specs.declared.per_ns.Namespace.{Namespace}
use Rattle.dm_base.specs.Names.{Name}
use Rattle.dm_base.specs.PerNs.{keep}
use Rattle.dm_maps.specs.GoesOn.{variants_if_known}
use Rattle.dm_maps.specs.World.{World, scope_of}
use Rattle.dm_scope.specs.Sorted.{names_of, seen}
use Rattle.dm_imports.specs.declared.container.Container.{Container}
use Rattle.dm_imports.specs.declared.container.Container.TheVariants as container
use Rattle.dm_imports.specs.declared.glob_import.GlobImport.{GlobImport}
use Rattle.dm_imports.specs.declared.joined.Joined.{Joined}
use Rattle.dm_imports.specs.declared.meaning.Meaning.{Meaning}
use Rattle.dm_imports.specs.declared.rules.listing.Listing.{Listing}
use Rattle.dm_imports.specs.declared.rules.meanings.ImportMeanings.{ImportMeanings}
use Rattle.dm_imports.specs.Asked.{meanings_of}
use Rattle.dm_imports.specs.Brought.{IsBrought}
use Rattle.dm_imports.specs.Meanings.{is_declared, joined}
use Rattle.dm_imports.specs.Paths.{DefMaps, at}
use Rattle.dm_imports.specs.Rules.{all_imports, given, source_of}
use Rattle.dm_imports.specs.Slots.{Slots, slot_at}

-- the names of a container: those that a module's scope has, or those of an enum's variants
abbrev pub source_names : World → Container → List Name
source_names w (container.Module m) = names_of (scope_of w m)
source_names w (container.Enum e) = option_map_or (map (λ v. v.0)) (variants_if_known w e) []

-- the names that the element of a number has, if there is one
abbrev pub names_at : {V : Type 0} → (V → List Name) → List V → ℕ → List Name
names_at f vs i = option_map_or f (slice_get vs i) []

-- the names that a listing has of a module
abbrev pub listed_in : Listing → ModuleId → List Name
listed_in l m = names_at (λ ns. seen ns.items) l.modules.items m.0

-- a listing has all names that modules bind
abbrev pub IsListing : World → Listing → Type 0
IsListing w l = (m : ModuleId) → m.0 < 4294967296 → (n : Name) → Contains (names_of (scope_of w m)) n → Contains (listed_in l m) n

-- a name of a module has in each namespace what the rules give
abbrev pub Agrees : DefMaps → ModuleId → Name → Type 0
Agrees d m n = (s : Namespace) → at d m n s ≡ given d m n s

-- the names of what a glob brings
abbrev pub names_brought : DefMaps → GlobImport → List Name
names_brought d g = option_map_or (source_names d.world) (source_of d g) []

-- Tables of what imports and globs bring.
pub record GivenTables : Type 0 where
  pub imports : Slots Meaning
  pub meanings : List ImportMeanings
  pub globs : Slots Joined

abbrev pub given_by : GivenTables → ModuleId → Name → Namespace → Option Meaning → Option Meaning
given_by g m n s bound = option_or (keep is_declared bound) (option_or (slot_at g.imports m n s) (option_map joined (slot_at g.globs m n s)))

-- they are those of def maps
pub record AreGiven (d : DefMaps) (g : GivenTables) : Type 0 where
  pub imports : (k : ModuleId) (x : Name) (t : Namespace) → slot_at g.imports k x t ≡ all_imports d d.imports k x t
  pub meanings : g.meanings ≡ map (meanings_of d) d.imports
  pub globs : IsBrought d g.globs
