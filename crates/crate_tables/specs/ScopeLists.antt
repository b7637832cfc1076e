-- What the lists of a scope have: the definitions of its module, and its constants without a name.
use Rattle.std.specs.Prelude.{ℕ, Bool, true, false, List, [], ◌∷◌, Option, None, Some, is_some, if◌then◌else◌}
use Rattle.crate_items.specs.declared.items.declared_item.DeclaredItem.{DeclaredItem}
use Rattle.crate_items.specs.DeclaredModules.{Module}
use Rattle.crate_tables.specs.CrateTables.{Table}
use Rattle.crate_tables.specs.DefIndexes.{def_at, key_at}
use Rattle.crate_tables.specs.ModuleIndexes.{declared_by}
use Rattle.crate_tables.specs.ScopeEntries.{with_entry}
use Rattle.crate_tables.specs.Visibilities.{Ids, id_at}
use Rattle.crate_tables.specs.declared.item_outline.ItemOutline.{ItemOutline}
use Rattle.crate_tables.specs.declared.scope_entry.ScopeEntry.TheVariants as entry
use Rattle.dm_base.specs.declared.ids.ModuleId.{ModuleId}
use Rattle.dm_base.specs.declared.item_ids.ModuleDefId.{ModuleDefId}
use Rattle.dm_base.specs.declared.item_ids.ModuleDefId.TheVariants as def
use Rattle.dm_maps.specs.World.{World}
use Rattle.item_tree.specs.declared.items.item_kind.ItemKind.{ItemKind}
use Rattle.item_tree.specs.declared.items.item_kind.ItemKind.TheVariants as item

-- ---- Lists

abbrev pub with_declaration : World → ModuleId → ModuleDefId → World
with_declaration w m d = with_entry w m (entry.Declaration d)

-- a constant needs no name
abbrev pub unnamed : World → ModuleId → ModuleDefId → World
unnamed w m (def.ConstId k) = with_entry w m (entry.UnnamedConst k)
unnamed w m _ = w

abbrev pub listed_as : World → ModuleId → Bool → ModuleDefId → World
listed_as w m named d = if named then with_declaration w m d else unnamed w m d

-- what is no definition is in no list
abbrev pub listed_if : World → ModuleId → Bool → Option ModuleDefId → World
listed_if w m named None = w
listed_if w m named (Some d) = listed_as w m named d

-- ---- The definition that an item is

-- an item, as lists need it
abbrev pub outline : DeclaredItem → ItemOutline
outline x = record { home = x.«module»; file = x.file; item = x.item; kind = x.kind; is_named = is_some x.name }

abbrev pub as_module : Option ModuleId → Option ModuleDefId
as_module None = None
as_module (Some m) = Some (def.ModuleId m)

abbrev pub module_at : Ids → Option ℕ → Option ModuleDefId
module_at ids None = None
module_at ids (Some n) = as_module (id_at ids n)

abbrev pub is_mod : ItemKind → Bool
is_mod item.Mod = true
is_mod _ = false

-- a `mod` is the module of the list that it declares, unless that was left out; any other item is the definition that the
-- table has where it is written, if that is one
abbrev pub def_of : List Module → Table → ItemOutline → ModuleId → Option ModuleDefId
def_of ms t x m =
    if is_mod x.kind then module_at t.ids (declared_by ms x) else def_at false t.defs (key_at m x.file x.item)

-- ---- All of them

-- a procedural macro is declared right before the function that it is
abbrev pub with_macro : World → ModuleId → Option ModuleDefId → World
with_macro w m None = w
with_macro w m (Some d) = with_declaration w m d

abbrev pub with_listed : List Module → Table → World → ItemOutline → Option ModuleId → World
with_listed ms t w x None = w
with_listed ms t w x (Some m) =
    listed_if (with_macro w m (def_at true t.defs (key_at m x.file x.item))) m x.is_named (def_of ms t x m)

-- The definitions of a crate's table come into the lists of their modules, in the order of the crate's items.
abbrev pub with_scope_lists : List Module → Table → World → List ItemOutline → World
with_scope_lists ms t w [] = w
with_scope_lists ms t w (x ∷ xs) = with_scope_lists ms t (with_listed ms t w x (id_at t.ids x.home)) xs
