-- The extern crates of a crate in a builder: which crate each is of, and what it binds.
use Rattle.std.specs.Prelude.{◌++◌, ◌==◌, Bool, true, false, List, [], ◌∷◌, Option, None, Some, length, map, if◌then◌else◌}
use Rattle.std.specs.List.{find}
use Rattle.std.specs.Option.{option_map}
use Rattle.crate_items.specs.DeclaredItems.{linked_crate}
use Rattle.crate_items.specs.declared.items.declared_item.DeclaredItem.{DeclaredItem}
use Rattle.crate_items.specs.declared.items.declared_item.LinkedCrate.{LinkedCrate}
use Rattle.crate_items.specs.declared.items.declared_item.LinkedCrate.TheVariants.{Itself, Named}
use Rattle.crate_items.specs.declared.files.dependency.Dependency.{Dependency}
use Rattle.crate_tables.specs.CrateDefs.{visibility_in}
use Rattle.crate_tables.specs.CrateRoots.{root_id}
use Rattle.crate_tables.specs.CrateTables.{Table, with_named}
use Rattle.crate_tables.specs.NewModules.{CrateView}
use Rattle.crate_tables.specs.Visibilities.{id_at}
use Rattle.crate_tables.specs.declared.extern_crates.ExternCrateRow.{ExternCrateRow}
use Rattle.dm_base.specs.PerNs.{type_alone}
use Rattle.dm_base.specs.declared.per_ns.PerNs.{PerNs}
use Rattle.dm_base.specs.declared.visibility.Visibility.{Visibility}
use Rattle.dm_maps.specs.declared.check.held.HeldId.{HeldId}
use Rattle.dm_maps.specs.declared.check.held.HeldId.TheVariants as held
use Rattle.dm_base.specs.Names.{Name, same_name}
use Rattle.dm_base.specs.declared.ids.Crate.{Crate}
use Rattle.dm_base.specs.declared.ids.ExternCrateId.{ExternCrateId}
use Rattle.dm_base.specs.declared.ids.ModuleId.{ModuleId}
use Rattle.dm_base.specs.declared.imports.ImportOrExternCrate.TheVariants as import
use Rattle.dm_base.specs.declared.item_ids.ModuleDefId.TheVariants as def
use Rattle.dm_maps.specs.BuildMaps.{with_extern_of}
use Rattle.dm_maps.specs.World.{World}
use Rattle.item_tree.specs.declared.items.item_kind.ItemKind.{ItemKind}
use Rattle.item_tree.specs.declared.items.item_kind.ItemKind.TheVariants as item

-- ---- Which crate it is of

-- the root of the crate that a dependency is of
abbrev pub root_of_dep : Dependency → ModuleId
root_of_dep d = root_id d.crate_id

-- the first dependency of a name counts, in the extern prelude or not
abbrev pub root_named : List Dependency → Name → Option ModuleId
root_named ds n = option_map root_of_dep (find (λ (d : Dependency). same_name d.name n) ds)

abbrev pub linked_root : Crate → List Dependency → Option LinkedCrate → Option ModuleId
linked_root k ds None = None
linked_root k ds (Some Itself) = Some (root_id k)
linked_root k ds (Some (Named n)) = root_named ds n

-- the roots that a crate can link: its own, and those of its dependencies
abbrev pub held_root : Dependency → HeldId
held_root d = held.Module (root_of_dep d)

abbrev pub linkable : Crate → List Dependency → List HeldId
linkable k ds = held.Module (root_id k) ∷ map held_root ds

-- ---- What it binds

-- a builder, what a crate has there so far, and the extern crates of the world so far
pub record Linked : Type 0 where
  pub world : World
  pub table : Table
  pub rows : List ExternCrateRow

-- the number of an extern crate is its place among those of the world
abbrev pub next_extern : List ExternCrateRow → ExternCrateId
next_extern rows = record { 0 = length rows }

abbrev pub row_of : ModuleId → DeclaredItem → Option ModuleId → ExternCrateRow
row_of m x root = record { home = m; file = x.file; item = x.item; root = root }

-- a root as an extern crate binds it: a type that the extern crate brings
abbrev pub root_name : ModuleId → Visibility → ExternCrateId → PerNs
root_name root v id = type_alone (def.ModuleId root) v (Some (import.ExternCrate id))

-- a name, if there is one, leads to the root in the extern prelude; if it is there already, then from now on
abbrev pub with_entry : World → Crate → Option Name → ModuleId → ExternCrateId → World
with_entry w k None root id = w
with_entry w k (Some n) root id = with_extern_of w k n root (Some id)

-- what stands in the crate's root, the module of number 0, is in the extern prelude too
abbrev pub entered : World → Crate → DeclaredItem → ModuleId → ExternCrateId → World
entered w k x root id = if x.«module» == 0 then with_entry w k x.name root id else w

abbrev pub entered_if : World → Crate → DeclaredItem → ExternCrateId → Option ModuleId → World
entered_if w k x id None = w
entered_if w k x id (Some root) = entered w k x root id

-- the root is declared under the item's name, seen as the item is
abbrev pub declared : CrateView → Table → DeclaredItem → ModuleId → ModuleId → ExternCrateId → Table
declared c t x m root id = with_named t m x.name (root_name root (visibility_in c t x m) id)

abbrev pub declared_if : CrateView → Table → DeclaredItem → ModuleId → ExternCrateId → Option ModuleId → Table
declared_if c t x m id None = t
declared_if c t x m id (Some root) = declared c t x m root id

-- an extern crate of the module m gets its number and its row, and binds the root, if there is one
abbrev pub linked_so : CrateView → Linked → DeclaredItem → ModuleId → Option ModuleId → Linked
linked_so c s x m root = record {
  world = entered_if s.world c.krate x (next_extern s.rows) root;
  table = declared_if c s.table x m (next_extern s.rows) root;
  rows = s.rows ++ row_of m x root ∷ [];
}

-- one of a module that was left out is left out, too
abbrev pub linked_if : CrateView → List Dependency → Linked → DeclaredItem → Option ModuleId → Linked
linked_if c ds s x None = s
linked_if c ds s x (Some m) = linked_so c s x m (linked_root c.krate ds (linked_crate c.list c.files x))

abbrev pub linked_in : CrateView → List Dependency → Linked → DeclaredItem → Linked
linked_in c ds s x = linked_if c ds s x (id_at s.table.ids x.«module»)

abbrev pub is_extern_crate : ItemKind → Bool
is_extern_crate item.ExternCrate = true
is_extern_crate _ = false

-- any other item is passed over
abbrev pub with_extern_crate : CrateView → List Dependency → Linked → DeclaredItem → Linked
with_extern_crate c ds s x = if is_extern_crate x.kind then linked_in c ds s x else s

-- Each extern crate among the items, in order.
abbrev pub with_extern_crates : CrateView → List Dependency → Linked → List DeclaredItem → Linked
with_extern_crates c ds s [] = s
with_extern_crates c ds s (x ∷ xs) = with_extern_crates c ds (with_extern_crate c ds s x) xs
