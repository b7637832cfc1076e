-- The name of the standard library that the root of a crate of the edition 2015 binds without an item.
use Rattle.std.specs.Prelude.{List, Option, None, Some, codes, if◌then◌else◌}
use Rattle.std.specs.List.{list_any}
use Rattle.crate_items.specs.declared.files.dependency.Dependency.{Dependency}
use Rattle.crate_items.specs.declared.items.crate_attributes.CrateAttribute.{CrateAttribute}
use Rattle.crate_tables.specs.CrateRoots.{is_no_core, is_no_std, root_id}
use Rattle.crate_tables.specs.CrateTables.{Table, with_name}
use Rattle.crate_tables.specs.ExternCrates.{Linked}
use Rattle.crate_tables.specs.StandardPreludes.{crate_named}
use Rattle.crate_tables.specs.declared.library_name.LibraryName.{LibraryName}
use Rattle.dm_base.specs.Names.{Name}
use Rattle.dm_base.specs.PerNs.{type_alone}
use Rattle.dm_base.specs.declared.edition.Edition.{Edition}
use Rattle.dm_base.specs.declared.edition.Edition.TheVariants.{Edition2015}
use Rattle.dm_base.specs.declared.ids.Crate.{Crate}
use Rattle.dm_base.specs.declared.item_ids.ModuleDefId.TheVariants as def
use Rattle.dm_base.specs.declared.visibility.Visibility.TheVariants.{PubCrate}

-- the crate is `std`, and `core` under `no_std`
abbrev pub library_word : List CrateAttribute → Name
library_word attrs = if list_any is_no_std attrs then codes "core" else codes "std"

abbrev pub known_as : Name → Option Crate → Option LibraryName
known_as n None = None
known_as n (Some k) = Some (record { name = n; krate = k })

-- the dependency of that name, if there is one; with `no_core` none is bound
abbrev pub bound_library : List CrateAttribute → List Dependency → Option LibraryName
bound_library attrs ds =
    if list_any is_no_core attrs then None else known_as (library_word attrs) (crate_named attrs ds (library_word attrs))

-- the name is bound in the edition 2015 alone
abbrev pub library_name : Edition → List CrateAttribute → List Dependency → Option LibraryName
library_name Edition2015 attrs ds = bound_library attrs ds
library_name _ attrs ds = None

-- The root of the crate k declares it, as a type that the crate alone sees.
abbrev pub with_library : Crate → Option LibraryName → Table → Table
with_library k None t = t
with_library k (Some l) t = with_name t (record {
  home = root_id k;
  name = l.name;
  items = type_alone (def.ModuleId (root_id l.krate)) (PubCrate k) None;
})

abbrev pub with_library_in : Crate → Option LibraryName → Linked → Linked
with_library_in k l s = record s { table = with_library k l s.table }
