-- The crates of a graph in a builder, with all that they declare.
use Rattle.std.specs.Prelude.{◌≡◌, ◌+◌, ◌++◌, ◌<◌, ◌||◌, ℕ, Bool, true, false, All, List, [], ◌∷◌, Option, None, Some, length, map, slice_get, take}
use Rattle.std.specs.List.{flat_map, list_any}
use Rattle.std.specs.Option.{option_map}
use Rattle.crate_items.specs.CrateAttributes.{crate_attributes}
use Rattle.crate_items.specs.DeclaredItems.{declared_of}
use Rattle.crate_items.specs.ModuleItems.{AreItemsFrom}
use Rattle.crate_items.specs.TextualScopes.{textual_scopes}
use Rattle.crate_items.specs.declared.items.crate_attributes.CrateAttribute.{CrateAttribute}
use Rattle.crate_items.specs.declared.items.declared_item.DeclaredItem.{DeclaredItem}
use Rattle.crate_items.specs.declared.items.module_items.ModuleItem.{ModuleItem}
use Rattle.crate_items.specs.CrateGraphs.{Data, Graph}
use Rattle.crate_items.specs.Files.{SourceFile}
use Rattle.crate_items.specs.Modules.{AreMore, Listing, declared_in, root_module}
use Rattle.crate_items.specs.Sources.{AreSourcesOf}
use Rattle.crate_items.specs.declared.files.dependency.Dependency.{Dependency}
use Rattle.crate_tables.specs.AllLists.{with_all_lists}
use Rattle.crate_tables.specs.BlockLists.{blocks_of, with_all_blocks}
use Rattle.crate_tables.specs.Blocks.{with_blocks}
use Rattle.crate_tables.specs.CrateMacros.{WithMacros, with_macros}
use Rattle.crate_tables.specs.CrateMaps.{Filled, with_crate_modules}
use Rattle.crate_tables.specs.CrateRoots.{root_id, with_externs, with_roots}
use Rattle.crate_tables.specs.CrateTables.{IsLeafOf, IsNameOf, Table}
use Rattle.crate_tables.specs.CrateUses.{Textual, with_uses}
use Rattle.crate_tables.specs.ExternCrates.{Linked, with_extern_crates}
use Rattle.crate_tables.specs.LibraryNames.{library_name, with_library_in}
use Rattle.crate_tables.specs.NewModules.{CrateView}
use Rattle.crate_tables.specs.Numbers.{has_far, has_too_many, is_past}
use Rattle.crate_tables.specs.PreludeImports.{Importer, Lists, named_among}
use Rattle.crate_tables.specs.ProceduralMacros.{with_procedural_macros}
use Rattle.crate_tables.specs.RawVisibilities.{with_written_items}
use Rattle.crate_tables.specs.ScopeLists.{outline}
use Rattle.crate_tables.specs.StandardPreludes.{own_map, standard_prelude, unnamed, with_attributes, with_crate_prelude}
use Rattle.crate_tables.specs.TextualMacros.{with_scopes}
use Rattle.crate_tables.specs.declared.extern_crates.ExternCrateRow.{ExternCrateRow}
use Rattle.crate_tables.specs.declared.fill_fault.FillFault.{FillFault}
use Rattle.crate_tables.specs.declared.library_name.LibraryName.{LibraryName}
use Rattle.crate_tables.specs.declared.fill_fault.FillFault.TheVariants.{NoRootFile, TooManyModules, OutOfNumbers, OutOfMemory}
use Rattle.dm_base.specs.declared.ids.Crate.{Crate}
use Rattle.dm_base.specs.declared.ids.ModuleId.{ModuleId}
use Rattle.dm_base.specs.declared.ids.UseId.{UseId}
use Rattle.dm_maps.specs.Build.{no_world}
use Rattle.dm_maps.specs.BuildMaps.{lacks_map}
use Rattle.dm_maps.specs.World.{World}
use Rattle.dm_maps.specs.declared.build_fault.BuildFault.{BuildFault}
use Rattle.dm_maps.specs.declared.build_fault.BuildFault.TheVariants as fault

-- how crates are read: from these files, each with so many modules at most
pub record Reading : Type 0 where
  pub files : List SourceFile
  pub limit : ℕ

-- the modules that a crate declares, by the sources that it reads
pub record IsListOf (r : Reading) (d : Data) (l : Listing) : Type 0 where
  pub sources : AreSourcesOf d.edition d.cfg_options r.files l.sources
  pub modules : l.modules ≡ root_module r.files d.root_file_id ∷ declared_in l.sources r.files 0 l.modules

-- ---- All items of a crate

abbrev pub textual_in : CrateView → WithMacros → List DeclaredItem → Textual
textual_in c made items = record { items = items; macros = made.ids; scopes = textual_scopes c.list items }

-- each module gets the macros that are in its textual scope
abbrev pub scopes_given : WithMacros → Textual → Filled
scopes_given made t = record {
  world = with_scopes t.items t.macros made.table.ids made.world t.scopes;
  table = made.table;
}

-- the macros among the items are added, then each module gets those that are in its textual scope, and then the uses are
-- added, whose leaves may mean these
abbrev pub in_scope : CrateView → WithMacros → List DeclaredItem → Filled
in_scope c made items = with_uses c (textual_in c made items) (scopes_given made (textual_in c made items))

abbrev pub with_macros_in_scope : CrateView → Filled → List DeclaredItem → Filled
with_macros_in_scope c s items = in_scope c (with_macros c (record { world = s.world; table = s.table; ids = [] }) items) items

-- behind these the procedural macros are added
abbrev pub with_all_macros : CrateView → Filled → List DeclaredItem → Filled
with_all_macros c s items = with_procedural_macros c (with_macros_in_scope c s items) items

-- macros and other items leave the extern crates as they are
abbrev pub macros_added : CrateView → Linked → List DeclaredItem → Linked
macros_added c s items =
    let made = with_all_macros c (record { world = s.world; table = s.table }) items in
    record { world = made.world; table = made.table; rows = s.rows }

abbrev pub others_added : CrateView → Linked → List DeclaredItem → Linked
others_added c s items =
    let made = with_written_items c (record { world = s.world; table = s.table }) items in
    record { world = made.world; table = made.table; rows = s.rows }

-- definitions come into the lists of their modules, and so do the extern crates behind so many others of the world
abbrev pub listed : CrateView → Linked → ℕ → List DeclaredItem → Linked
listed c s n items = record s { world = with_all_lists c.krate c.list.modules s.table s.world (map outline items) n s.rows }

-- the blocks among the items come into the table
abbrev pub blocks_added : CrateView → Linked → List DeclaredItem → Linked
blocks_added c s items = record s { table = with_blocks c.list s.table items }

-- Behind the blocks the extern crates among the items are added, then the macros and their scopes, and then all others.
-- Then the lists of scopes are filled.
unfoldable pub with_all_items : CrateView → List Dependency → Linked → List DeclaredItem → Linked
with_all_items c ds s items =
    listed c (others_added c (macros_added c (with_extern_crates c ds (blocks_added c s items) items) items) items) (length s.rows) items

-- behind these a root of the edition 2015 binds the standard library
abbrev pub with_all_bound : CrateView → List Dependency → Option LibraryName → Linked → List DeclaredItem → Linked
with_all_bound c ds lib s items = with_library_in c.krate lib (with_all_items c ds s items)

-- ---- Crates

abbrev pub with_rows : Filled → List ExternCrateRow → Linked
with_rows s rows = record { world = s.world; table = s.table; rows = rows }

-- s is w with the modules of a crate's list below its root, and with their items, in the order of the text, and what the
-- root binds without an item; the extern crates of the world so far get its own behind them
pub record HasList (c : CrateView) (ds : List Dependency) (lib : Option LibraryName) (w : World) (rows : List ExternCrateRow)
    (s : Linked) : Type 0 where
  pub items : List ModuleItem
  pub order : AreItemsFrom c.list.sources 0 c.list.modules items
  pub filled : s ≡ with_all_bound c ds lib (with_rows (with_crate_modules c w (root_id c.krate)) rows)
      (flat_map (declared_of c.edition c.list c.files) items)

abbrev pub view_of : List SourceFile → Crate → Data → Listing → CrateView
view_of files k d l = record {
  krate = k;
  edition = d.edition;
  options = d.cfg_options;
  is_proc_macro = d.is_proc_macro;
  list = l;
  files = files;
}

-- a crate with its attributes: its dependencies are in its extern prelude, and then its map has what they set
abbrev pub prepared : World → Crate → List CrateAttribute → List Dependency → World
prepared w k attrs ds = with_attributes (with_externs w k attrs ds) k attrs

-- what the attributes of a crate set, by the list of its modules
abbrev pub attributes_of : List SourceFile → Data → Listing → List CrateAttribute
attributes_of files d l = crate_attributes l files d.root_file_id

-- s is w with the crate k filled by the list of its modules: its attributes are set, its dependencies are in its extern
-- prelude, and then it has the modules of the list, and their items
abbrev pub IsFilledBy : List SourceFile → Crate → Data → World → List ExternCrateRow → Listing → Linked → Type 0
IsFilledBy files k d w rows l s =
    HasList (view_of files k d l) d.dependencies (library_name d.edition (attributes_of files d l) d.dependencies)
    (prepared w k (attributes_of files d l) d.dependencies) rows s

-- s is w with the crate k filled by the list of the modules that it declares
pub record IsCrateIn (r : Reading) (k : Crate) (d : Data) (w : World) (rows : List ExternCrateRow) (l : Listing)
    (s : Linked) : Type 0 where
  pub is : IsListOf r d l
  pub items : IsFilledBy r.files k d w rows l s

-- a builder, the modules of each crate so far, what it has there, and the extern crates of all of them
pub record Crates : Type 0 where
  pub world : World
  pub lists : List Listing
  pub tables : List Table
  pub rows : List ExternCrateRow

abbrev pub no_crates : World → Crates
no_crates w = record { world = w; lists = []; tables = []; rows = [] }

-- with one crate more
abbrev pub with_crate : Crates → Listing → Linked → Crates
with_crate c l s = record {
  world = s.world;
  lists = c.lists ++ l ∷ [];
  tables = c.tables ++ s.table ∷ [];
  rows = s.rows;
}

-- all is c with crates filled, one after another from a number on
abbrev pub AreCratesFrom : Reading → ℕ → Graph → Crates → Crates → Type 0
AreCratesFrom r n [] c all = all ≡ c
AreCratesFrom r n (d ∷ ds) c all =
    (l : Listing) × (s : Linked) × IsCrateIn r (record { 0 = n }) d c.world c.rows l s
    × AreCratesFrom r (n + 1) ds (with_crate c l s) all

-- ---- Preludes

-- A prelude may be a module of another crate, so it is set where all crates are filled. It is the one that a
-- `#[prelude_import]` names, or else the standard prelude.
abbrev pub or_standard : Lists → Importer → Option (ModuleId × Option UseId) → Option (ModuleId × Option UseId)
or_standard c i None = option_map unnamed (standard_prelude c.lists c.tables i.edition i.attributes i.dependencies)
or_standard c i (Some named) = Some named

abbrev pub importer_of : List SourceFile → Crate → Data → Listing → Importer
importer_of files k d l =
    record { krate = k; edition = d.edition; attributes = attributes_of files d l; dependencies = d.dependencies }

abbrev pub prelude_from : Lists → Importer → Listing → Table → Option (ModuleId × Option UseId)
prelude_from c i l t = or_standard c i (named_among c i l t.leaves None t.uses)

abbrev pub prelude_of : List SourceFile → Lists → Crate → Data → Option Listing → Option Table → Option (ModuleId × Option UseId)
prelude_of files c k d (Some l) (Some t) = prelude_from c (importer_of files k d l) l t
prelude_of files c k d _ _ = None

abbrev pub with_prelude_of : List SourceFile → List Listing → List Table → Crate → Data → World → World
with_prelude_of files ls ts k d w = with_crate_prelude w k
    (prelude_of files (record { lists = ls; tables = ts }) k d (slice_get ls k.0) (slice_get ts k.0))

-- each of some crates, the first of which has this number, gets its prelude
abbrev pub with_preludes_from : List SourceFile → List Listing → List Table → ℕ → Graph → World → World
with_preludes_from files ls ts n [] w = w
with_preludes_from files ls ts n (d ∷ ds) w =
    with_preludes_from files ls ts (n + 1) ds (with_prelude_of files ls ts (record { 0 = n }) d w)

-- The tables of a graph's crates: each crate is filled, one after another, then each gets its prelude, and then the blocks of
-- all come into the lists of their modules.
pub record AreFilled (r : Reading) (g : Graph) (made : Crates) : Type 0 where
  pub world : World
  pub crates : AreCratesFrom r 0 g (no_crates (with_roots no_world g)) (record made { world = world })
  pub lists : made.world ≡
      with_all_blocks (with_preludes_from r.files made.lists made.tables 0 g world) made.tables

-- all that a table holds is the builder's
pub record IsKnownTable (w : World) (t : Table) : Type 0 where
  pub names : All (IsNameOf w) t.names
  pub leaves : All (IsLeafOf w) t.leaves

-- ---- Why they are not filled

-- why a crate's modules are not listed: the file of its root is not there, it has more than so many, or memory ran out
abbrev pub IsFaultOf : Reading → Crate → Data → FillFault → Type 0
IsFaultOf r k d (NoRootFile c) = (c ≡ k) × ¬ (d.root_file_id.0 < length r.files)
IsFaultOf r k d (TooManyModules c) = (c ≡ k) × AreMore d.edition d.cfg_options r.files d.root_file_id r.limit
IsFaultOf r k d OutOfNumbers = ⊥
IsFaultOf r k d OutOfMemory = Unit {0}

-- the fault of a builder that knows the root of the crate: memory ran out, or numbers
abbrev pub of_builder : BuildFault → FillFault
of_builder fault.OutOfMemory = OutOfMemory
of_builder _ = OutOfNumbers

-- it is so of a crate of the graph
abbrev pub IsFaultIn : Reading → Graph → FillFault → Type 0
IsFaultIn r g f =
    (k : Crate) × (d : Data) × (slice_get g k.0 ≡ Some d) × IsFaultOf r k d f

-- memory ran out, or numbers did for a reason, or there is such a fault
abbrev pub IsShortageOr : Type 0 → (FillFault → Type 0) → FillFault → Type 0
IsShortageOr why P OutOfMemory = Unit {0}
IsShortageOr why P OutOfNumbers = why
IsShortageOr why P f = P f

-- there are more than 4,294,967,295 modules, items, variants of enums, uses, macros or extern crates
abbrev pub is_crowded : Linked → Bool
is_crowded s = has_too_many s.world || is_past (length s.rows)

-- with a crate, filled by its list, it is so, or a module of the list is declared behind so many other items of its file
abbrev pub is_over : Listing → Linked → Bool
is_over l s = is_crowded s || has_far l

-- it would be so of a crate that is filled by the list of its modules
abbrev pub ListRunsOut : CrateView → List Dependency → Option LibraryName → World → List ExternCrateRow → Type 0
ListRunsOut c ds lib w rows = (s : Linked) × HasList c ds lib w rows s × (is_over c.list s ≡ true)

abbrev pub FillRunsOut : List SourceFile → Crate → Data → World → List ExternCrateRow → Listing → Type 0
FillRunsOut files k d w rows l = (s : Linked) × IsFilledBy files k d w rows l s × (is_over l s ≡ true)

abbrev pub CrateRunsOut : Reading → Crate → Data → World → List ExternCrateRow → Type 0
CrateRunsOut r k d w rows = (l : Listing) × (s : Linked) × IsCrateIn r k d w rows l s × (is_over l s ≡ true)

-- some crates have more than 4,294,967,295 modules, items, variants of enums, uses, macros, extern crates or blocks, or a
-- module is declared behind so many other items of its file
abbrev pub are_over : Crates → Bool
are_over c =
    has_too_many c.world || (is_past (length c.rows) || (list_any has_far c.lists || is_past (length (blocks_of c.tables))))

-- Numbers run out where it would be so of the crates of a graph up to some crate, filled one after another.
pub record RunsOutFrom (r : Reading) (g : Graph) (start : Crates) : Type 0 where
  pub number : ℕ
  pub crates : Crates
  pub filled : AreCratesFrom r 0 (take number g) start crates
  pub over : are_over crates ≡ true

abbrev pub RunsOut : Reading → Graph → Type 0
RunsOut r g = RunsOutFrom r g (no_crates (with_roots no_world g))

-- each of so many crates has its own map at its number
abbrev pub HasMaps : World → ℕ → Type 0
HasMaps w count = (k : Crate) → k.0 < count → lacks_map w (own_map k) ≡ false
