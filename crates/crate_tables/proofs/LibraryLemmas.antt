-- The library that a root binds is the builder's.
use Rattle.std.proofs.Common.{◌∷◌, [], Bool, true, false, cond, List, Option, Some, None}
use Rattle.std.specs.List.{find, list_any}
use Rattle.std.specs.Option.{option_map}
use Rattle.std.specs.Prelude.{IfSome, IsTrue, map}
use Rattle.crate_items.specs.declared.files.dependency.Dependency.{Dependency}
use Rattle.crate_items.specs.declared.items.crate_attributes.CrateAttribute.{CrateAttribute}
use Rattle.crate_tables.specs.CrateRoots.{is_no_core, root_id}
use Rattle.crate_tables.specs.ExternCrates.{held_root, linkable}
use Rattle.crate_tables.specs.Kept.{IsKept}
use Rattle.crate_tables.specs.LibraryNames.{bound_library, known_as, library_name, library_word}
use Rattle.crate_tables.specs.StandardPreludes.{crate_named, is_named_so}
use Rattle.crate_tables.specs.declared.library_name.LibraryName.{LibraryName}
use Rattle.dm_base.specs.Names.{Name}
use Rattle.dm_base.specs.declared.edition.Edition.{Edition}
use Rattle.dm_base.specs.declared.edition.Edition.TheVariants.{Edition2015, Edition2018, Edition2021, Edition2024}
use Rattle.dm_base.specs.declared.ids.Crate.{Crate}
use Rattle.dm_maps.specs.Known.{knows, KnowsAll}
use Rattle.dm_maps.specs.World.{World}
use Rattle.dm_maps.specs.declared.check.held.HeldId.TheVariants as held

abbrev IsIn : World → LibraryName → Type 0
IsIn w l = IsTrue (knows w (held.Module (root_id l.krate)))

named-known : (w : World) (attrs : List CrateAttribute) (n : Name) (ds : List Dependency) → KnowsAll w (map held_root ds) → IfSome (known_as n (crate_named attrs ds n)) (IsIn w)
named-known w attrs n [] k = tt
named-known w attrs n (d ∷ ds) k = by (is_named_so attrs n d) (named-known w attrs n ds k.1)
  where
    by : (b : Bool) → IfSome (known_as n (crate_named attrs ds n)) (IsIn w)
        → IfSome (known_as n (option_map (λ (e : Dependency). e.crate_id) (cond b (Some d) (find (is_named_so attrs n) ds)))) (IsIn w)
    by true later = k.0
    by false later = later

bound-known : (w : World) (attrs : List CrateAttribute) (ds : List Dependency) → KnowsAll w (map held_root ds) → IfSome (bound_library attrs ds) (IsIn w)
bound-known w attrs ds k = by (list_any is_no_core attrs)
  where
    by : (b : Bool) → IfSome (cond b None (known_as (library_word attrs) (crate_named attrs ds (library_word attrs)))) (IsIn w)
    by true = tt
    by false = named-known w attrs (library_word attrs) ds k

pub library-known : (w : World) (e : Edition) (attrs : List CrateAttribute) (k : Crate) (ds : List Dependency) → KnowsAll w (linkable k ds)
    → IfSome (library_name e attrs ds) (λ l. IsTrue (knows w (held.Module (root_id l.krate))))
library-known w Edition2015 attrs k ds known = bound-known w attrs ds known.1
library-known w Edition2018 attrs k ds known = tt
library-known w Edition2021 attrs k ds known = tt
library-known w Edition2024 attrs k ds known = tt

-- it stays so
pub library-on : (v w : World) (l : Option LibraryName) → IsKept v w → IfSome l (λ l. IsTrue (knows v (held.Module (root_id l.krate))))
    → IfSome l (λ l. IsTrue (knows w (held.Module (root_id l.krate))))
library-on v w None kept known = tt
library-on v w (Some l) kept known = kept.known (held.Module (root_id l.krate)) known
