-- The preludes that crates name by `#[prelude_import]`.
use Rattle.std.specs.Prelude.{◌==◌, ◌&&◌, Bool, true, false, List, [], ◌∷◌, Option, Some, None, slice_get, if◌then◌else◌}
use Rattle.std.specs.List.{find, list_any}
use Rattle.std.specs.Option.{option_and_then, option_map}
use Rattle.crate_items.specs.ItemAttributes.{kinds_from}
use Rattle.crate_items.specs.declared.items.crate_attributes.CrateAttribute.{CrateAttribute}
use Rattle.crate_items.specs.Modules.{Listing}
use Rattle.crate_items.specs.PreludeModules.{module_behind}
use Rattle.crate_items.specs.Sources.{source_at}
use Rattle.crate_items.specs.declared.files.dependency.Dependency.{Dependency}
use Rattle.crate_tables.specs.CrateTables.{Table}
use Rattle.crate_tables.specs.StandardPreludes.{crate_named, id_in}
use Rattle.crate_tables.specs.declared.item_place.UsePlace.{UsePlace}
use Rattle.crate_tables.specs.declared.use_leaf.UseLeaf.{UseLeaf}
use Rattle.dm_base.specs.declared.mod_path.PathKind.{PathKind}
use Rattle.dm_base.specs.declared.mod_path.PathKind.TheVariants as path
use Rattle.dm_base.specs.Names.{Name}
use Rattle.dm_base.specs.declared.ids.Crate.{Crate}
use Rattle.dm_base.specs.declared.ids.ModuleId.{ModuleId}
use Rattle.dm_base.specs.declared.ids.UseId.{UseId}
use Rattle.dm_base.specs.declared.edition.Edition.{Edition}
use Rattle.dm_base.specs.declared.edition.Edition.TheVariants as edition
use Rattle.item_tree.specs.declared.attributes.attribute_kind.AttributeKind.{AttributeKind}
use Rattle.item_tree.specs.declared.attributes.attribute_kind.AttributeKind.TheVariants as says
use Rattle.item_tree.specs.declared.items.imports.ImportKind.{ImportKind}
use Rattle.item_tree.specs.declared.items.imports.ImportKind.TheVariants as imports

-- the modules of each crate, and what it has in a builder, by its number
pub record Lists : Type 0 where
  pub lists : List Listing
  pub tables : List Table

-- a crate that names a prelude, and what it sees of others
pub record Importer : Type 0 where
  pub krate : Crate
  pub edition : Edition
  pub attributes : List CrateAttribute
  pub dependencies : List Dependency

abbrev pub is_prelude_import : AttributeKind → Bool
is_prelude_import says.PreludeImport = true
is_prelude_import _ = false

abbrev pub is_glob : ImportKind → Bool
is_glob imports.Glob = true
is_glob _ = false

-- ---- The module that a path leads to

-- names lead down from the root of a crate, along the modules that are written
abbrev pub behind : List Table → Crate → List Name → Option Listing → Option ModuleId
behind tables k names None = None
behind tables k names (Some l) = id_in tables k (module_behind l.modules (Some 0) names)

abbrev pub behind_root : Lists → Crate → List Name → Option ModuleId
behind_root c k names = behind c.tables k names (slice_get c.lists k.0)

-- the first name is that of a dependency in the extern prelude
abbrev pub in_dependency : Lists → Importer → List Name → Option ModuleId
in_dependency c i [] = None
in_dependency c i (n ∷ ns) = option_and_then (λ k. behind_root c k ns) (crate_named i.attributes i.dependencies n)

abbrev pub or_else : Option ModuleId → Option ModuleId → Option ModuleId
or_else None other = other
or_else (Some m) other = Some m

-- the first name stands in the root of the crate, or else is that of a dependency
abbrev pub in_either : Lists → Importer → List Name → Option ModuleId
in_either c i names = or_else (behind_root c i.krate names) (in_dependency c i names)

-- behind `::` it is that of a dependency, in the edition 2015 either
abbrev pub behind_colons : Lists → Importer → Edition → List Name → Option ModuleId
behind_colons c i edition.Edition2015 names = in_either c i names
behind_colons c i _ names = in_dependency c i names

-- the module that a path in the root of a crate leads to, along the modules that are written
abbrev pub written_module : Lists → Importer → PathKind → List Name → Option ModuleId
written_module c i path.Plain names = in_either c i names
written_module c i path.Abs names = behind_colons c i i.edition names
written_module c i path.Crate names = behind_root c i.krate names
written_module c i (path.Super n) names = if n == 0 then behind_root c i.krate names else None
written_module c i _ names = None

-- ---- The prelude that a use names

-- a leaf that is a glob of the use u in the root of the crate k
abbrev pub is_root_glob : Crate → UseId → UseLeaf → Bool
is_root_glob k u x = (x.use_.0 == u.0) && ((x.home.0 == k.0) && is_glob x.import.kind)

abbrev pub with_use : UseId → ModuleId → ModuleId × Option UseId
with_use u m = (m, Some u)

abbrev pub named_by : Lists → Importer → UseId → UseLeaf → Option (ModuleId × Option UseId)
named_by c i u x = option_map (with_use u) (written_module c i x.import.path.kind x.import.path.segments)

-- the module that its first glob leads to
abbrev pub named_by_use : Lists → Importer → List UseLeaf → UseId → Option (ModuleId × Option UseId)
named_by_use c i leaves u = option_and_then (named_by c i u) (find (is_root_glob i.krate u) leaves)

-- a use names a prelude that stands under `#[prelude_import]`
abbrev pub named_at : Lists → Importer → Listing → List UseLeaf → UsePlace → Option (ModuleId × Option UseId)
named_at c i l leaves p =
    if list_any is_prelude_import (kinds_from (source_at l.sources p.file) p.item) then named_by_use c i leaves p.use_ else None

abbrev pub later : Option (ModuleId × Option UseId) → Option (ModuleId × Option UseId) → Option (ModuleId × Option UseId)
later before None = before
later before (Some named) = Some named

-- of some uses the last that does
abbrev pub named_among : Lists → Importer → Listing → List UseLeaf → Option (ModuleId × Option UseId) → List UsePlace
    → Option (ModuleId × Option UseId)
named_among c i l leaves named [] = named
named_among c i l leaves named (p ∷ ps) = named_among c i l leaves (later named (named_at c i l leaves p)) ps
