-- The uses of a crate in a builder, with their leaves.
use Rattle.std.specs.Prelude.{◌+◌, ◌&&◌, ℕ, Bool, true, false, List, [], ◌∷◌, Option, None, Some, map, if◌then◌else◌}
use Rattle.std.specs.Option.{option_and_then}
use Rattle.crate_items.specs.DeclaredImports.{declared_imports}
use Rattle.crate_items.specs.TextualScopes.{Scopes, macro_before, scope_at}
use Rattle.crate_items.specs.declared.items.declared_import.DeclaredImport.{DeclaredImport}
use Rattle.crate_items.specs.declared.items.declared_item.DeclaredItem.{DeclaredItem}
use Rattle.crate_tables.specs.CrateDefs.{visibility_in}
use Rattle.crate_tables.specs.CrateMaps.{Filled}
use Rattle.crate_tables.specs.CrateTables.{use_at, with_leaves, with_use_at}
use Rattle.crate_tables.specs.NewModules.{CrateView}
use Rattle.crate_tables.specs.TextualMacros.{macro_at}
use Rattle.crate_tables.specs.Visibilities.{id_at}
use Rattle.crate_tables.specs.declared.use_leaf.UseLeaf.{UseLeaf}
use Rattle.dm_base.specs.Names.{Name}
use Rattle.dm_base.specs.declared.ids.ModuleId.{ModuleId}
use Rattle.dm_base.specs.declared.ids.UseId.{UseId}
use Rattle.dm_base.specs.declared.item_ids.MacroId.{MacroId}
use Rattle.dm_base.specs.declared.mod_path.PathKind.{PathKind}
use Rattle.dm_base.specs.declared.mod_path.PathKind.TheVariants as path
use Rattle.dm_base.specs.declared.visibility.Visibility.{Visibility}
use Rattle.dm_maps.specs.BuildItems.{next_use, with_use}
use Rattle.item_tree.specs.declared.items.imports.ImportKind.{ImportKind}
use Rattle.item_tree.specs.declared.items.imports.ImportKind.TheVariants as imports
use Rattle.item_tree.specs.declared.items.item_kind.ItemKind.{ItemKind}
use Rattle.item_tree.specs.declared.items.item_kind.ItemKind.TheVariants as item

-- the items of a crate, which macro each is, and the textual scopes of its modules
pub record Textual : Type 0 where
  pub items : List DeclaredItem
  pub macros : List (Option MacroId)
  pub scopes : Scopes

-- ---- Leaves

abbrev pub is_single : ImportKind → Bool
is_single imports.Plain = true
is_single _ = false

abbrev pub is_plain : PathKind → Bool
is_plain path.Plain = true
is_plain _ = false

-- the macro that a name means in textual scope at the item i of the module m
abbrev pub macro_named : Textual → ℕ → ℕ → Name → Option MacroId
macro_named t m i name = option_and_then (macro_at t.macros) (macro_before t.items (scope_at t.scopes m) i name)

abbrev pub named_by : Textual → ℕ → ℕ → Bool → List Name → Option MacroId
named_by t m i true (name ∷ []) = macro_named t m i name
named_by t m i _ _ = None

-- a leaf of the use i means a textual macro where its path is one name; a glob means none, and neither does `a::{self}`
abbrev pub textual_of : Textual → ℕ → ℕ → DeclaredImport → Option MacroId
textual_of t m i x = named_by t m i (is_single x.kind && is_plain x.path.kind) x.path.segments

-- a leaf of the use i of the module m, seen by v
abbrev pub leaf_in : Textual → ℕ → DeclaredItem → ModuleId → Visibility → UseId → DeclaredImport → UseLeaf
leaf_in t i x m v u import =
    record { home = m; visibility = v; use_ = u; textual = textual_of t x.«module» i import; import = import }

-- ---- Uses

abbrev pub is_use : ItemKind → Bool
is_use item.Use = true
is_use _ = false

-- a use of the module m, seen by v, is added with these leaves
abbrev pub used : Textual → Filled → ℕ → DeclaredItem → ModuleId → Visibility → List DeclaredImport → Filled
used t s i x m v xs = record {
  world = with_use s.world m;
  table = with_use_at (with_leaves s.table (map (leaf_in t i x m v (next_use s.world)) xs)) (use_at (next_use s.world) x);
}

-- one of a module that was left out is, too
abbrev pub used_if : CrateView → Textual → Filled → ℕ → DeclaredItem → Option ModuleId → Filled
used_if c t s i x None = s
used_if c t s i x (Some m) = used t s i x m (visibility_in c s.table x m) (declared_imports c.list c.files x)

abbrev pub used_in : CrateView → Textual → Filled → ℕ → DeclaredItem → Filled
used_in c t s i x = used_if c t s i x (id_at s.table.ids x.«module»)

-- other items are passed over
abbrev pub with_use_item : CrateView → Textual → Filled → ℕ → DeclaredItem → Filled
with_use_item c t s i x = if is_use x.kind then used_in c t s i x else s

abbrev pub with_uses_from : CrateView → Textual → Filled → ℕ → List DeclaredItem → Filled
with_uses_from c t s i [] = s
with_uses_from c t s i (x ∷ xs) = with_uses_from c t (with_use_item c t s i x) (i + 1) xs

-- Each use among the items is added, in order, in its module, with its leaves.
abbrev pub with_uses : CrateView → Textual → Filled → Filled
with_uses c t s = with_uses_from c t s 0 t.items
