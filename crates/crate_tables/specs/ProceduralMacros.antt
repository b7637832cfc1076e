-- The procedural macros of a crate in a builder.
use Rattle.std.specs.Prelude.{List, [], ◌∷◌, Option, None, Some, if◌then◌else◌}
use Rattle.crate_items.specs.ProceduralMacros.{procedural_macro}
use Rattle.crate_items.specs.declared.items.declared_item.DeclaredItem.{DeclaredItem}
use Rattle.crate_items.specs.declared.macros.procedural_macro.ProceduralMacro.{ProceduralMacro}
use Rattle.crate_tables.specs.CrateMacros.{next_macro}
use Rattle.crate_tables.specs.CrateMaps.{Filled}
use Rattle.crate_tables.specs.CrateRoots.{root_id}
use Rattle.crate_tables.specs.CrateTables.{Table, def_at, with_def_at, with_named}
use Rattle.crate_tables.specs.NewModules.{CrateView, is_macro_root}
use Rattle.dm_base.specs.PerNs.{macro_alone}
use Rattle.dm_base.specs.declared.visibility.Visibility.TheVariants.{Public}
use Rattle.dm_base.specs.Names.{Name}
use Rattle.dm_base.specs.declared.ids.Crate.{Crate}
use Rattle.dm_base.specs.declared.item_ids.MacroId.{MacroId}
use Rattle.dm_base.specs.declared.item_ids.ModuleDefId.TheVariants as def
use Rattle.dm_base.specs.declared.macros.MacroLoc.{MacroLoc}
use Rattle.dm_base.specs.declared.macros.MacroLoc.TheVariants as loc
use Rattle.dm_maps.specs.BuildItems.{with_macro}
use Rattle.dm_maps.specs.World.{World}

-- only a function in the root of a crate of procedural macros is one
abbrev pub made_of : CrateView → DeclaredItem → Option ProceduralMacro
made_of c x = if is_macro_root c x.«module» then procedural_macro c.list c.files x else None

abbrev pub loc_of : ProceduralMacro → MacroLoc
loc_of p = loc.Proc p.kind

abbrev pub next_of : World → ProceduralMacro → MacroId
next_of w p = next_macro w (loc_of p)

-- it is declared in the root under its name, for all, beside the function that it is
abbrev pub placed : Crate → Table → DeclaredItem → Name → MacroId → Table
placed k t x n id =
    with_def_at (with_named t (root_id k) (Some n) (macro_alone id Public None)) (def_at (def.MacroId id) (root_id k) x)

-- it is a macro of the root
abbrev pub added : Crate → Filled → DeclaredItem → ProceduralMacro → Filled
added k s x p = record {
  world = with_macro s.world (root_id k) (loc_of p);
  table = placed k s.table x p.name (next_of s.world p);
}

-- any other item is passed over
abbrev pub added_if : Crate → Filled → DeclaredItem → Option ProceduralMacro → Filled
added_if k s x None = s
added_if k s x (Some p) = added k s x p

abbrev pub with_procedural_macro : CrateView → Filled → DeclaredItem → Filled
with_procedural_macro c s x = added_if c.krate s x (made_of c x)

-- Each procedural macro among the items, in order.
abbrev pub with_procedural_macros : CrateView → Filled → List DeclaredItem → Filled
with_procedural_macros c s [] = s
with_procedural_macros c s (x ∷ xs) = with_procedural_macros c (with_procedural_macro c s x) xs
