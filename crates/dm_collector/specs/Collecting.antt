-- What collecting a graph of crates gives.
use Rattle.std.specs.Prelude.{◌≡◌, ℕ, false, List, [], map}
use Rattle.std.specs.List.{flat_map, list_any}
use Rattle.std.specs.Map.{lookup}
use Rattle.crate_items.specs.CrateGraphs.{Graph}
use Rattle.crate_items.specs.Modules.{Listing}
use Rattle.crate_tables.specs.AssocItems.{AreAllAdded, Filled as WithItems}
use Rattle.crate_tables.specs.CrateFillings.{AreFilled, Crates, Reading}
use Rattle.crate_tables.specs.CrateTables.{Table, emptied}
use Rattle.crate_tables.specs.DeclaredWorlds.{AreShown, WithGlobs, with_all_declared}
use Rattle.crate_tables.specs.declared.assoc_items.items.AssocPlace.{AssocPlace}
use Rattle.crate_tables.specs.declared.declared_name.DeclaredName.{DeclaredName}
use Rattle.crate_tables.specs.declared.extern_crates.ExternCrateRow.{ExternCrateRow}
use Rattle.crate_tables.specs.declared.use_leaf.UseLeaf.{UseLeaf}
use Rattle.dm_base.specs.declared.ids.Crate.{Crate}
use Rattle.dm_base.specs.Tree.{same_module}
use Rattle.dm_base.specs.declared.ids.EnumId.{EnumId}
use Rattle.dm_base.specs.declared.ids.EnumVariantId.{EnumVariantId}
use Rattle.dm_base.specs.declared.ids.ModuleId.{ModuleId}
use Rattle.dm_collector.specs.BareModules.{all_bare, is_among}
use Rattle.dm_collector.specs.Binding.{AreCratesBound}
use Rattle.dm_collector.specs.Constructors.{constructor_vis, constructors}
use Rattle.dm_collector.specs.Declaring.{KeepDeclared}
use Rattle.dm_collector.specs.Enums.{enum_vis}
use Rattle.dm_collector.specs.Leaves.{globs_of, imports_of}
use Rattle.dm_collector.specs.MacroUses.{macro_uses}
use Rattle.dm_collector.specs.PreludeGlobs.{unless_named}
use Rattle.dm_collector.specs.Steps.{Given, IsReached, MapsOf, StillShow}
use Rattle.dm_collector.specs.declared.collected.Collected.{Collected}
use Rattle.dm_def_map.specs.Variants.{same_enum}
use Rattle.dm_imports.specs.Bound.{Maps}
use Rattle.dm_imports.specs.Declarations.{same_variant}
use Rattle.dm_imports.specs.Grounded.{IsGrounded}
use Rattle.dm_imports.specs.Paths.{DefMaps}
use Rattle.dm_imports.specs.Rules.{AreImportsKnown, IsSupported}
use Rattle.dm_imports.specs.Tables.{MapTables, of_tables}
use Rattle.dm_maps.specs.World.{World}
use Rattle.dm_scope.specs.Flags.{no_globs}

-- What stays known of crates: the list of each one's modules; its table, from which names and imports were taken; the
-- extern crates of all; and where each associated item is written.
pub record Kept : Type 0 where
  pub lists : List Listing
  pub tables : List Table
  pub rows : List ExternCrateRow
  pub assocs : List AssocPlace

abbrev pub kept_of : Crates → List AssocPlace → Kept
kept_of c places = record { lists = c.lists; tables = map emptied c.tables; rows = c.rows; assocs = places }

-- the names that some crates declare, and the leaves of their uses, crate by crate
abbrev pub names_of : List Table → List DeclaredName
names_of ts = flat_map (λ (t : Table). t.names) ts

abbrev pub leaves_of : List Table → List UseLeaf
leaves_of ts = flat_map (λ (t : Table). t.leaves) ts

-- The def maps in which nothing is imported yet: the world has the tables of the crates of a graph, each filled with what it
-- declares, with their associated items, and with these names, pushed one after another, so that each module binds what is
-- declared in it; each leaf of a use is an import, one of these, or a glob, unless it names the prelude of its crate.
pub record IsBegun (r : Reading) (g : Graph) (k : Kept) (x : Given) (s : Maps) : Type 0 where
  pub crates : Crates
  pub filled : AreFilled r g crates
  pub whole : WithItems
  pub items : AreAllAdded r.files crates.lists 0 0 crates.tables (record { world = crates.world; places = [] }) whole
  pub kept : k ≡ kept_of crates whole.places
  pub world : ◌≡◌ {A = WithGlobs} (record { world = s.world; globs = s.flags })
      (with_all_declared (record { world = whole.world; globs = no_globs }) (names_of crates.tables))
  pub declared : AreShown s.world s.flags (names_of crates.tables)
  pub imports : x.imports ≡ flat_map imports_of (leaves_of crates.tables)
  pub globs : x.globs ≡ flat_map (unless_named s.world) (flat_map globs_of (leaves_of crates.tables))
  pub enums : (e : EnumId) → x.enums e ≡ enum_vis (names_of crates.tables) e
  pub constructors : (v : EnumVariantId) → x.constructors v
      ≡ constructor_vis (constructors s.world r.files k.lists k.tables 0 g) v
  pub bare : (m : ModuleId) → x.is_bare m ≡ is_among (all_bare k.lists 0 k.tables) m
  pub uses : x.uses ≡ macro_uses r.files crates.lists crates.rows 0 g

-- From there, stage by stage, preludes got macros, and imports and globs were bound; and then unnamed traits were imported,
-- and what preludes lacked was added: n steps of that at least wrote something.
pub record IsImported (d : MapsOf) (n : ℕ) (x : Given) (start last : Maps) : Type 0 where
  pub order : List Crate
  pub bound : Maps
  pub names : AreCratesBound x order start bound
  pub traits : IsReached d x n bound.world last.world
  pub shown : StillShow bound.world last.world
  pub flags : last.flags ≡ bound.flags

-- Each name that is declared still means in the end what it is declared as.
pub record IsCollected (d : MapsOf) (n : ℕ) (r : Reading) (g : Graph) (k : Kept) (x : Given) (s : Maps) : Type 0 where
  pub start : Maps
  pub begun : IsBegun r g k x start
  pub imported : IsImported d n x start s
  pub declared : KeepDeclared s.world (names_of begun.crates.tables)

-- Def maps are right where they are what the rules of imports give of them, and that follows from declarations; and these
-- imports and globs name only what they have.
pub record AreRight (d : DefMaps) : Type 0 where
  pub known : AreImportsKnown d
  pub supported : IsSupported d
  pub grounded : IsGrounded d

-- ---- What is answered

abbrev pub kept_in : Collected → Kept
kept_in c = record { lists = c.lists.items; tables = c.tables.items; rows = c.externs.items; assocs = c.assocs.items }

abbrev pub given_in : Collected → Given
given_in c = record {
  imports = c.imports.items;
  globs = c.globs.items;
  enums = λ e. lookup (same_enum e) c.declarations.enums;
  constructors = λ v. lookup (same_variant v) c.declarations.constructors;
  is_bare = λ m. list_any (same_module m) c.declarations.bare_modules;
  uses = c.uses.items;
}

abbrev pub state_of : Collected → Maps
state_of c = record { world = c.world; flags = c.flags }

-- the def maps of a world, with what is imported there
abbrev pub tables_in : Collected → World → MapTables
tables_in c w = record {
  world = w;
  imports = c.imports.items;
  globs = c.globs.items;
  declarations = c.declarations;
  ambiguous = record { table = c.ambiguous; is_all_but = false };
}

abbrev pub maps_in : Collected → MapsOf
maps_in c w = of_tables (tables_in c w)
