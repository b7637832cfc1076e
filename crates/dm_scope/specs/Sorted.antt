-- The sorted lists of a scope.
use Rattle.std.specs.Prelude.{◌≡◌, ◌↔◌, ◌++◌, Bool, true, List, Option, Some, None, map, Contains}
use Rattle.std.specs.Borrow.{Bor}
use Rattle.std.specs.declared.cmp.Ordering.{Ordering}
use Rattle.std.specs.List.{filter_map, list_any}
use Rattle.std.specs.List.Sorted.{IsStrictlySortedBy}
use Rattle.std.specs.Option.{option_map}
use Rattle.std.specs.Cmp.Lexicographic.{slice_cmp}
use Rattle.std.specs.Ordering.{nat_cmp}
use Rattle.dm_base.specs.declared.ids.TraitId.{TraitId}
use Rattle.dm_base.specs.declared.imports.ImportId.{ImportId}
use Rattle.dm_base.specs.declared.imports.ImportOrExternCrate.TheVariants as wide
use Rattle.dm_base.specs.declared.item_ids.ModuleDefId.TheVariants as def
use Rattle.dm_base.specs.declared.per_ns.PerNs.{PerNs}
use Rattle.dm_base.specs.declared.visibility.Visibility.{Visibility}
use Rattle.dm_base.specs.Imports.{widened, named_import}
use Rattle.dm_base.specs.Names.{Name}
use Rattle.dm_scope.specs.Scope.{Scope, bound_in}

-- the names that are bound or unresolved, each as often as it is
abbrev pub names_of : Scope → List Name
names_of s = map (λ e. e.0) s.types.items ++ map (λ e. e.0) s.values.items ++ map (λ e. e.0) s.macros.items ++ s.unresolved

-- The elements of a list in order, of those that are equal one.
pub record AreSortedOnce {X : Type 0} (cmp : X → X → Ordering) (same : X → X → Bool) (once all : List X) : Type 0 where
  pub sorted : IsStrictlySortedBy cmp once
  pub of_all : (x : X) → Contains once x → Contains all x
  pub has_each : (x : X) → Contains all x → list_any (same x) once ≡ true

-- Names in order of their bytes, without repeats: just those of a list.
pub record AreInOrder (names all : List Name) : Type 0 where
  pub sorted : IsStrictlySortedBy (slice_cmp nat_cmp) names
  pub same : (name : Name) → Contains names name ↔ Contains all name

-- Names of a scope in order: just those that are bound or unresolved.
abbrev pub AreNames : List Name → Scope → Type 0
AreNames names s = AreInOrder names (names_of s)

-- the names of references
abbrev pub seen : List (Bor Name) → List Name
seen names = map (λ n. n.now) names

-- an entry, with the name that its reference points to
abbrev pub deref_entry : Bor Name × PerNs → Name × PerNs
deref_entry e = (e.0.now, e.1)

-- Entries of a scope: its names in order, each with what it is bound to.
abbrev pub AreEntries : List (Name × PerNs) → Scope → Type 0
AreEntries es s = AreNames (map (λ e. e.0) es) s × (es ≡ map (λ n. (n, bound_in s n)) (map (λ e. e.0) es))

-- the named imports that have a record
abbrev pub imports_of : Scope → List ImportId
imports_of s =
    filter_map named_import (map (λ e. e.0) s.types.records)
    ++ filter_map (λ i. named_import (widened i)) (map (λ e. e.0) s.values.records)
    ++ filter_map named_import (map (λ e. e.0) s.macros.records)

-- Imports in order of their uses, and in a use of their places, without repeats: just those that have a record.
pub record AreImports (cmp : ImportId → ImportId → Ordering) (imports : List ImportId) (s : Scope) : Type 0 where
  pub sorted : IsStrictlySortedBy cmp imports
  pub same : (i : ImportId) → Contains imports i ↔ Contains (imports_of s) i

-- what an unnamed trait resolves to
abbrev pub unnamed_type : TraitId × Visibility × Option ImportId → PerNs
unnamed_type t = record { types = Some (record { def = def.TraitId t.0; vis = t.1; import = option_map (λ i. wide.Import i) t.2 }); values = None; macros = None }

abbrev pub unnamed_resolution : TraitId × Visibility × Option ImportId → Option Name × PerNs
unnamed_resolution t = (None, unnamed_type t)

abbrev pub named_resolution : Name × PerNs → Option Name × PerNs
named_resolution e = (Some e.0, e.1)

-- Resolutions of a scope: its entries, and then its unnamed traits.
abbrev pub AreResolutions : List (Option Name × PerNs) → Scope → Type 0
AreResolutions rs s = (es : List (Name × PerNs)) × AreEntries es s × (rs ≡ map named_resolution es ++ map unnamed_resolution s.unnamed_traits)

abbrev pub deref_resolution : Option (Bor Name) × PerNs → Option Name × PerNs
deref_resolution r = (option_map (λ n. n.now) r.0, r.1)
