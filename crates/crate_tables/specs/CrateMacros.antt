-- The macros of a crate in a builder, and which names they get.
use Rattle.std.specs.Prelude.{◌++◌, Bool, true, false, List, [], ◌∷◌, Option, None, Some, length, if◌then◌else◌}
use Rattle.crate_items.specs.BuiltinMacros.{macro_expander}
use Rattle.crate_items.specs.DeclaredMacros.{is_macro_exported}
use Rattle.crate_items.specs.declared.items.declared_item.DeclaredItem.{DeclaredItem}
use Rattle.crate_tables.specs.CrateDefs.{visibility_in}
use Rattle.crate_tables.specs.CrateRoots.{root_id}
use Rattle.crate_tables.specs.CrateTables.{Table, def_at, with_def_at, with_named}
use Rattle.crate_tables.specs.NewModules.{CrateView}
use Rattle.crate_tables.specs.Visibilities.{id_at, public_in}
use Rattle.dm_base.specs.PerNs.{macro_alone}
use Rattle.dm_base.specs.declared.ids.ModuleId.{ModuleId}
use Rattle.dm_base.specs.declared.item_ids.MacroId.{MacroId}
use Rattle.dm_base.specs.declared.item_ids.ModuleDefId.TheVariants as def
use Rattle.dm_base.specs.declared.macros.MacroExpander.{MacroExpander}
use Rattle.dm_base.specs.declared.macros.MacroLoc.{MacroLoc}
use Rattle.dm_base.specs.declared.macros.MacroLoc.TheVariants as loc
use Rattle.dm_maps.specs.BuildItems.{macro_id, with_macro}
use Rattle.dm_maps.specs.World.{World}
use Rattle.item_tree.specs.declared.items.item_kind.ItemKind.{ItemKind}
use Rattle.item_tree.specs.declared.items.item_kind.ItemKind.TheVariants as item

-- a builder, what a crate has there so far, and for each item so far the macro that it is
pub record WithMacros : Type 0 where
  pub world : World
  pub table : Table
  pub ids : List (Option MacroId)

-- the items that are macros
abbrev pub is_macro : ItemKind → Bool
is_macro item.MacroRules = true
is_macro item.Macro2 = true
is_macro _ = false

-- what a macro is, by the kind of its item and by how it is expanded
abbrev pub loc_of : ItemKind → MacroExpander → Option MacroLoc
loc_of item.MacroRules e = Some (loc.MacroRules e)
loc_of item.Macro2 e = Some (loc.Macro2 e)
loc_of _ e = None

abbrev pub macro_loc : CrateView → DeclaredItem → Option MacroLoc
macro_loc c x = loc_of x.kind (macro_expander c.list c.files x)

-- one by `macro_rules!` that is exported is declared in the root of its crate, as what is public there; others of that
-- kind are declared nowhere
abbrev pub exported : CrateView → Table → DeclaredItem → MacroId → Table
exported c t x id =
    if is_macro_exported c.list x
    then with_named t (root_id c.krate) x.name (macro_alone id (public_in c.is_proc_macro c.krate) None)
    else t

-- one by `macro` is declared in its module, seen as it is written
abbrev pub declared_in : CrateView → Table → DeclaredItem → ModuleId → MacroId → Table
declared_in c t x m id = with_named t m x.name (macro_alone id (visibility_in c t x m) None)

abbrev pub declared_as : CrateView → Table → DeclaredItem → ModuleId → MacroId → ItemKind → Table
declared_as c t x m id item.MacroRules = exported c t x id
declared_as c t x m id _ = declared_in c t x m id

abbrev pub placed_as : CrateView → Table → DeclaredItem → ModuleId → MacroId → Table
placed_as c t x m id = with_def_at (declared_as c t x m id x.kind) (def_at (def.MacroId id) m x)

abbrev pub next_macro : World → MacroLoc → MacroId
next_macro w l = macro_id l (length w.macros)

-- a macro of the module m is added, and declared
abbrev pub added_as : CrateView → WithMacros → DeclaredItem → ModuleId → MacroLoc → WithMacros
added_as c s x m l = record {
  world = with_macro s.world m l;
  table = placed_as c s.table x m (next_macro s.world l);
  ids = s.ids ++ Some (next_macro s.world l) ∷ [];
}

-- what is no macro is passed over, and so is one of a module that was left out
abbrev pub passed : WithMacros → WithMacros
passed s = record s { ids = s.ids ++ None ∷ [] }

abbrev pub added_in : CrateView → WithMacros → DeclaredItem → Option ModuleId → MacroLoc → WithMacros
added_in c s x None l = passed s
added_in c s x (Some m) l = added_as c s x m l

abbrev pub added_by : CrateView → WithMacros → DeclaredItem → Option MacroLoc → WithMacros
added_by c s x None = passed s
added_by c s x (Some l) = added_in c s x (id_at s.table.ids x.«module») l

abbrev pub with_macro_item : CrateView → WithMacros → DeclaredItem → WithMacros
with_macro_item c s x = added_by c s x (macro_loc c x)

-- Each macro among the items, in order.
abbrev pub with_macros : CrateView → WithMacros → List DeclaredItem → WithMacros
with_macros c s [] = s
with_macros c s (x ∷ xs) = with_macros c (with_macro_item c s x) xs
