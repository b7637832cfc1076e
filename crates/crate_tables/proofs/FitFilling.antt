-- All that the tables of a graph's crates hold is known, once they are filled.
use Rattle.std.proofs.Common.{◌≡◌, ◌∙◌, ◌+◌, ◌≤◌, ◌<◌, ℕ, suc, zero, List, [], ◌∷◌, ◌++◌, Option, None, Some, ap, arith, drop, length, length-append, map, refl, subst, sym}
use Rattle.std.specs.Prelude.{All}
use Rattle.std.specs.List.{AllByRecursion, flat_map}
use Rattle.std.proofs.lemmas.Bool.{lt-ltb}
use Rattle.std.proofs.lemmas.List.Elements.{All-from_recursion, All-head, All-tail}
use Rattle.crate_tables.proofs.AllLemmas.{all-push, all-weaker}
use Rattle.crate_tables.proofs.FillingLemmas.{linkable-known}
use Rattle.crate_tables.proofs.FitCrates.{Fills, IsFitTable, IsKnownDef, all_procedural-fill, blocks-fit, externs-fill, goes-attributes, goes-externs, macros-fill, modules-fill, table-on, uses-fill}
use Rattle.crate_tables.proofs.FitItems.{goes-lists, goes-pairs, written-fill}
use Rattle.crate_tables.proofs.FitLemmas.{IsFit, Known, fit-checked}
use Rattle.crate_tables.proofs.FitPreludes.{AreFitTables, goes-preludes, tables-on}
use Rattle.crate_tables.proofs.FitScopes.{goes-blocks, goes-rows, goes-scopes}
use Rattle.crate_tables.proofs.FitSteps.{Goes, all-wider, goes-crate, goes-further, goes-same}
use Rattle.crate_tables.proofs.GrownLemmas.{ids-more}
use Rattle.crate_items.specs.CrateGraphs.{AreKnown, Data, Graph}
use Rattle.crate_items.specs.DeclaredItems.{declared_of}
use Rattle.crate_items.specs.Modules.{Listing}
use Rattle.crate_items.specs.declared.files.dependency.Dependency.{Dependency}
use Rattle.crate_items.specs.declared.items.declared_item.DeclaredItem.{DeclaredItem}
use Rattle.crate_tables.specs.BlockLists.{blocks_of, with_all_blocks}
use Rattle.crate_tables.specs.CrateFillings as filling
use Rattle.crate_tables.specs.CrateMacros as macros
use Rattle.crate_tables.specs.CrateMaps as maps
use Rattle.crate_tables.specs.CrateRoots.{KnowsRoots, root_holds, root_id, with_externs, with_roots}
use Rattle.crate_tables.specs.CrateTables.{HasKnownDefs, Table}
use Rattle.crate_tables.specs.CrateUses.{Textual, with_uses}
use Rattle.crate_tables.specs.ExternCrates.{Linked, linkable, with_extern_crates}
use Rattle.crate_tables.specs.ExternLists.{with_extern_rows}
use Rattle.crate_tables.specs.LibraryNames.{with_library, with_library_in}
use Rattle.crate_tables.specs.NewModules.{CrateView}
use Rattle.crate_tables.specs.ProceduralMacros.{with_procedural_macros}
use Rattle.crate_tables.specs.ProceduralPairs.{with_pairs}
use Rattle.crate_tables.specs.RawVisibilities.{with_written_items}
use Rattle.crate_tables.specs.ScopeLists.{outline, with_scope_lists}
use Rattle.crate_tables.specs.StandardPreludes.{with_attributes}
use Rattle.crate_tables.specs.Visibilities.{AreIdsOf, Ids, id_at}
use Rattle.crate_tables.specs.declared.extern_crates.ExternCrateRow.{ExternCrateRow}
use Rattle.crate_tables.specs.declared.library_name.LibraryName.{LibraryName}
use Rattle.dm_base.specs.declared.ids.Crate.{Crate}
use Rattle.dm_base.specs.declared.ids.ModuleId.{ModuleId}
use Rattle.dm_maps.specs.Build.{no_world, with_crate}
use Rattle.dm_maps.specs.First.{IsChecked}
use Rattle.dm_maps.specs.Known.{KnowsAll}
use Rattle.dm_maps.specs.World.{World}
use Rattle.dm_maps.specs.declared.check.held.HeldId.TheVariants as held
use Rattle.crate_tables.specs.NewModules.{in_edition}

-- ---- Roots

roots-fit : (w : World) (g : Graph) → IsFit w → IsFit (with_roots w g)
roots-fit w [] is = is
roots-fit w (d ∷ ds) is = roots-fit (with_crate w d.edition (in_edition d.edition d.root_file_id)) ds (goes-crate w d.edition (in_edition d.edition d.root_file_id) is).fit

nothing-fits : IsFit no_world
nothing-fits = record { maps = record { crates = tt; blocks = tt }; locals = tt; tables = tt }

crates-more : (w : World) (g : Graph) → length (with_roots w g).crate_maps ≡ length w.crate_maps + length g
crates-more w [] = omega arith
crates-more w (d ∷ ds) =
    let v = with_crate w d.edition (in_edition d.edition d.root_file_id) in
    let rest = crates-more v ds in
    omega (arith, length-append w.crate_maps)

places-more : (w : World) (g : Graph) → length (with_roots w g).places ≡ length w.places + length g
places-more w [] = omega arith
places-more w (d ∷ ds) =
    let v = with_crate w d.edition (in_edition d.edition d.root_file_id) in
    let rest = places-more v ds in
    omega (arith, length-append w.places)

roots-there : (g : Graph) → KnowsRoots (with_roots no_world g) (length g)
roots-there g k less =
    let v = with_roots no_world g in
    let crates = crates-more no_world g in
    let places = places-more no_world g in
    (lt-ltb k.0 (length v.crate_maps) (omega arith), (lt-ltb k.0 (length v.places) (omega arith), tt))

-- ---- A crate

root-alone : (w : World) (root : ModuleId) → Known w (held.Module root) → IsFitTable w (maps.root_alone root)
root-alone w root known = record { ids = ids-more w [] (Some root) none known; uses = tt; defs = tt }
  where
    none : AreIdsOf w []
    none zero m e = cc
    none (suc n) m e = cc

module _ (c : CrateView) (items : List DeclaredItem) where
  in_scope-fill : (s : maps.Filled) → IsFit s.world → IsFitTable s.world s.table
      → Fills s.world (filling.with_macros_in_scope c s items).world (filling.with_macros_in_scope c s items).table
  in_scope-fill s is table =
      let start : macros.WithMacros = record { world = s.world; table = s.table; ids = [] } in
      let made = macros.with_macros c start items in
      let one = macros-fill c start items is table tt in
      let text = filling.textual_in c made items in
      let given = filling.scopes_given made text in
      let two = goes-scopes items made.ids made.table.ids made.world 0 text.scopes one.fills.goes.fit one.ids in
      let last = with_uses c text given in
      let three = uses-fill c text given 0 items two.fit (table-on made.world given.world made.table two one.fills.table) in
      record { goes = goes-further s.world made.world last.world one.fills.goes (goes-further made.world given.world last.world two three.goes); table = three.table }

  all_macros-fill : (s : maps.Filled) → IsFit s.world → IsFitTable s.world s.table
      → Fills s.world (filling.with_all_macros c s items).world (filling.with_all_macros c s items).table
  all_macros-fill s is table =
      let next = filling.with_macros_in_scope c s items in
      let one = in_scope-fill s is table in
      let last = with_procedural_macros c next items in
      let two = all_procedural-fill c next items one.goes.fit one.table in
      record { goes = goes-further s.world next.world last.world one.goes two.goes; table = two.table }

  listed-fills : (s : Linked) (n : ℕ) → IsFit s.world → IsFitTable s.world s.table → Fills s.world (filling.listed c s n items).world (filling.listed c s n items).table
  listed-fills s n is table =
      let lists = with_scope_lists c.list.modules s.table s.world (map outline items) in
      let one = goes-lists c.list.modules s.table s.world (map outline items) is table in
      let rows = with_extern_rows lists n (drop n s.rows) in
      let two = goes-rows lists n (drop n s.rows) one.fit in
      let both = goes-further s.world lists rows one two in
      let last = with_pairs c.krate s.table rows in
      let three = goes-pairs c.krate s.table rows two.fit (table-on s.world rows s.table both table) in
      let goes = goes-further s.world rows last both three in
      record { goes = goes; table = table-on s.world last s.table goes table }

  all_items-fill : (ds : List Dependency) (s : Linked) → IsFit s.world → IsFitTable s.world s.table → KnowsAll s.world (linkable c.krate ds)
      → Fills s.world (filling.with_all_items c ds s items).world (filling.with_all_items c ds s items).table
  unfolding filling.with_all_items
  all_items-fill ds s is table known =
      let a = filling.blocks_added c s items in
      let b = with_extern_crates c ds a items in
      let two = externs-fill c ds a items is (blocks-fit c s.world c.list s.table items table) known in
      let d = filling.macros_added c b items in
      let three = all_macros-fill (record { world = b.world; table = b.table }) two.goes.fit two.table in
      let e = filling.others_added c d items in
      let four = written-fill c (record { world = d.world; table = d.table }) items three.goes.fit three.table in
      let last = filling.listed c e (length s.rows) items in
      let five = listed-fills e (length s.rows) four.goes.fit four.table in
      record {
        goes = goes-further s.world b.world last.world two.goes
            (goes-further b.world d.world last.world three.goes (goes-further d.world e.world last.world four.goes five.goes));
        table = five.table;
      }

library-fits : (w : World) (k : Crate) (l : Option LibraryName) (t : Table) → IsFitTable w t → IsFitTable w (with_library k l t)
library-fits w k None t is = is
library-fits w k (Some l) t is = record { ids = is.ids; uses = is.uses; defs = is.defs }

list-fills : (c : CrateView) (ds : List Dependency) (lib : Option LibraryName) (w : World) (rows : List ExternCrateRow) (s : Linked) → filling.HasList c ds lib w rows s
    → IsFit w → KnowsAll w (root_holds c.krate) → KnowsAll w (linkable c.krate ds) → Fills w s.world s.table
list-fills c ds lib w rows s has is root links =
    let items = flat_map (declared_of c.edition c.list c.files) has.items in
    let m = maps.with_crate_modules c w (root_id c.krate) in
    let one = modules-fill c (record { world = w; table = maps.root_alone (root_id c.krate) }) (drop 1 c.list.modules) is (root-alone w (root_id c.krate) root.1.0) root.0 in
    let a = filling.with_rows m rows in
    let b = filling.with_all_items c ds a items in
    let two = all_items-fill c items ds a one.goes.fit one.table (all-wider w m.world one.goes (linkable c.krate ds) links) in
    let made : Linked = with_library_in c.krate lib b in
    let all : Fills w made.world made.table = record { goes = goes-further w m.world b.world one.goes two.goes; table = library-fits b.world c.krate lib b.table two.table } in
    subst (λ (x : Linked). Fills w x.world x.table) (sym has.filled) all

crate-fills : (r : filling.Reading) (k : Crate) (d : Data) (w : World) (rows : List ExternCrateRow) (l : Listing) (s : Linked) → filling.IsCrateIn r k d w rows l s
    → IsFit w → KnowsAll w (root_holds k) → KnowsAll w (linkable k d.dependencies) → Fills w s.world s.table
crate-fills r k d w rows l s made is root links =
    let attrs = filling.attributes_of r.files d l in
    let a = with_externs w k attrs d.dependencies in
    let one = goes-externs w k attrs d.dependencies 0 d.dependencies is links.1 in
    let b = with_attributes a k attrs in
    let two = goes-attributes a k attrs one.fit in
    let goes = goes-further w a b one two in
    let three = list-fills (filling.view_of r.files k d l) d.dependencies _ b rows s made.items goes.fit (all-wider w b goes (root_holds k) root) (all-wider w b goes (linkable k d.dependencies) links) in
    record { goes = goes-further w b s.world goes three.goes; table = three.table }

-- ---- All crates

record AreFit (count : ℕ) (x : filling.Crates) : Type 0 where
  fit : IsFit x.world
  tables : AreFitTables x.world x.tables
  roots : KnowsRoots x.world count

crates-fit : (r : filling.Reading) (count n : ℕ) (g : Graph) (c all : filling.Crates) → All (AreKnown count) g → n + length g ≤ count → AreFit count c → filling.AreCratesFrom r n g c all → AreFit count all
crates-fit r count n [] c all known less is same = subst (AreFit count) (sym same) is
crates-fit r count n (d ∷ ds) c all known less is (l, s, one, rest) =
    let k : Crate = record { 0 = n } in
    let below : n < count = omega arith in
    let fills = crate-fills r k d c.world c.rows l s one is.fit (is.roots k below) (linkable-known c.world count k d below is.roots (All-head (AreKnown count) d ds known)) in
    let next = filling.with_crate c l s in
    crates-fit r count (n + 1) ds next all (All-tail (AreKnown count) d ds known) (omega arith)
    (record {
      fit = fills.goes.fit;
      tables = all-push (IsFitTable s.world) c.tables s.table (tables-on c.world s.world c.tables fills.goes is.tables) fills.table;
      roots = λ j lt. all-wider c.world s.world fills.goes (root_holds j) (is.roots j lt);
    }) rest

-- the crates of a graph are filled: the world knows all that it and their tables hold
filled-fit : (r : filling.Reading) (g : Graph) (made : filling.Crates) → All (AreKnown (length g)) g → filling.AreFilled r g made → IsFit made.world × AreFitTables made.world made.tables
filled-fit r g made known filled =
    let count = length g in
    let alone = with_roots no_world g in
    let w = filled.world in
    let all = crates-fit r count 0 g (filling.no_crates alone) (record made { world = w }) known (omega arith)
    (record { fit = roots-fit no_world g nothing-fits; tables = tt; roots = roots-there g }) filled.crates in
    let v = filling.with_preludes_from r.files made.lists made.tables 0 g w in
    let one = goes-preludes r.files made.lists made.tables w 0 g all.fit all.tables in
    let u = with_all_blocks v made.tables in
    let two = goes-blocks v 0 (blocks_of made.tables) one.fit in
    let both = goes-further w v u one two in
    subst (λ (x : World). IsFit x × AreFitTables x made.tables) (sym filled.lists) (both.fit, tables-on w u made.tables both all.tables)

pub filled-checked : (r : filling.Reading) (g : Graph) (made : filling.Crates) → All (AreKnown (length g)) g → filling.AreFilled r g made → IsChecked made.world
filled-checked r g made known filled = fit-checked made.world (filled-fit r g made known filled).0

pub filled-defs : (r : filling.Reading) (g : Graph) (made : filling.Crates) → All (AreKnown (length g)) g → filling.AreFilled r g made → All (HasKnownDefs made.world) made.tables
filled-defs r g made known filled =
    All-from_recursion (HasKnownDefs made.world) made.tables
    (all-weaker (IsFitTable made.world) (HasKnownDefs made.world) (λ t is. All-from_recursion (IsKnownDef made.world) t.defs is.defs) made.tables (filled-fit r g made known filled).1)
