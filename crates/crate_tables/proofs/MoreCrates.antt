-- A world with the modules and the items of a crate has no fewer of anything than before.
use Rattle.std.proofs.Common.{◌≡◌, ◌≤◌, ◌==◌, ◌||◌, ◌+◌, ℕ, suc, zero, Bool, true, false, cond, List, [], ◌∷◌, ◌++◌, Option, None, Some, drop, length, length-append, map, take, arith, refl, subst, sym}
use Rattle.std.specs.List.{flat_map}
use Rattle.std.specs.Option.{option_map, option_map_or}
use Rattle.crate_tables.proofs.FitSteps.{more-push}
use Rattle.crate_tables.proofs.MoreSteps.{IsMore, many-on, more-further, more-item, more-locals, more-macro, more-module, more-prelude, more-same, more-scope, more-settings, more-tables, more-use, more-variant, or-on, past-on}
use Rattle.crate_items.specs.DeclaredFields.{field_visibilities}
use Rattle.crate_items.specs.DeclaredItems.{linked_crate}
use Rattle.crate_items.specs.DeclaredModules.{Module}
use Rattle.crate_items.specs.DeclaredVariants.{declared_variants}
use Rattle.crate_items.specs.RawVisibilities.{item_visibility}
use Rattle.crate_items.specs.TextualScopes.{Scopes, name_at}
use Rattle.crate_items.specs.declared.files.dependency.Dependency.{Dependency}
use Rattle.crate_items.specs.declared.items.crate_attributes.CrateAttribute.{CrateAttribute}
use Rattle.crate_items.specs.declared.items.declared_item.DeclaredItem.{DeclaredItem}
use Rattle.crate_items.specs.declared.items.declared_variant.DeclaredVariant.{DeclaredVariant}
use Rattle.crate_items.specs.declared.macros.procedural_macro.ProceduralMacro.{ProceduralMacro}
use Rattle.crate_items.specs.declared.macros.textual_scopes.TextualMacro.{TextualMacro}
use Rattle.crate_tables.specs.CrateDefs as defs
use Rattle.crate_tables.specs.CrateFillings as filling
use Rattle.crate_tables.specs.CrateMacros as macros
use Rattle.crate_tables.specs.CrateMaps as maps
use Rattle.crate_tables.specs.CrateRoots.{is_extern, root_id, with_extern, with_externs_from}
use Rattle.crate_tables.specs.CrateTables.{Table}
use Rattle.crate_tables.specs.CrateUses as uses
use Rattle.crate_tables.specs.DefIndexes as indexes
use Rattle.crate_tables.specs.ExternCrates as externs
use Rattle.crate_tables.specs.ExternLists as rows
use Rattle.crate_tables.specs.NewModules.{CrateView, new_module, origin_of}
use Rattle.crate_tables.specs.Numbers.{has_too_many, is_past}
use Rattle.crate_tables.specs.ProceduralMacros as procedural
use Rattle.crate_tables.specs.ProceduralPairs as pairs
use Rattle.crate_tables.specs.RawVisibilities as raws
use Rattle.crate_tables.specs.ScopeEntries.{entered, with_entry, with_entry_in}
use Rattle.crate_tables.specs.ScopeLists as scopes
use Rattle.crate_tables.specs.StandardPreludes.{setting_of, with_attributes}
use Rattle.crate_tables.specs.TextualMacros as textual
use Rattle.crate_tables.specs.Visibilities.{Ids, id_at}
use Rattle.crate_tables.specs.declared.extern_crates.ExternCrateRow.{ExternCrateRow}
use Rattle.crate_tables.specs.declared.item_outline.ItemOutline.{ItemOutline}
use Rattle.crate_tables.specs.declared.item_place.DefPlace.{DefPlace}
use Rattle.crate_tables.specs.declared.library_name.LibraryName.{LibraryName}
use Rattle.crate_tables.specs.declared.new_module.NewModule.{NewModule}
use Rattle.crate_tables.specs.declared.scope_entry.ScopeEntry.{ScopeEntry}
use Rattle.crate_tables.specs.declared.scope_entry.ScopeEntry.TheVariants as entry
use Rattle.dm_base.specs.Names.{Name, same_name}
use Rattle.dm_base.specs.declared.ids.Crate.{Crate}
use Rattle.dm_base.specs.declared.ids.EnumId.{EnumId}
use Rattle.dm_base.specs.declared.ids.ExternCrateId.{ExternCrateId}
use Rattle.dm_base.specs.declared.ids.ModuleId.{ModuleId}
use Rattle.dm_base.specs.declared.item_ids.AdtId.TheVariants as adt
use Rattle.dm_base.specs.declared.item_ids.ItemKind.{ItemKind as Kind}
use Rattle.dm_base.specs.declared.item_ids.MacroId.{MacroId}
use Rattle.dm_base.specs.declared.item_ids.ModuleDefId.{ModuleDefId}
use Rattle.dm_base.specs.declared.item_ids.ModuleDefId.TheVariants as def
use Rattle.dm_base.specs.declared.macros.MacroLoc.{MacroLoc}
use Rattle.dm_base.specs.declared.visibility.Visibility.{Visibility}
use Rattle.dm_def_map.specs.declared.modules.module_origin.ModuleOrigin.{ModuleOrigin}
use Rattle.dm_maps.specs.Build.{item_def, with_item, with_module}
use Rattle.dm_maps.specs.BuildItems.{next_variant, with_macro, with_use, with_variant}
use Rattle.dm_maps.specs.BuildMaps.{with_extern_of}
use Rattle.dm_maps.specs.BuildTables.{with_fields}
use Rattle.dm_maps.specs.Faults.{has_child}
use Rattle.dm_maps.specs.ItemFaults.{has_variant}
use Rattle.dm_maps.specs.Known.{knows}
use Rattle.dm_maps.specs.World.{World, scope_if_known}
use Rattle.dm_maps.specs.declared.check.held.HeldId.TheVariants as held
use Rattle.dm_scope.specs.Scope.{Scope}
use Rattle.dm_scope.specs.TableLists.{add_to_list}

-- ---- Extern preludes and attributes

pub more-dependencies : (w : World) (k : Crate) (attrs : List CrateAttribute) (all : List Dependency) (n : ℕ) (ds : List Dependency) → IsMore w (with_externs_from w k attrs all n ds)
more-dependencies w k attrs all n [] = more-same w
more-dependencies w k attrs all n (d ∷ ds) =
    let v = with_extern w k attrs (take n all) d in
    more-further w v (with_externs_from v k attrs all (n + 1) ds) (by (is_extern attrs (take n all) d)) (more-dependencies v k attrs all (n + 1) ds)
  where
    by : (b : Bool) → IsMore w (cond b (with_extern_of w k d.name (root_id d.crate_id) None) w)
    by true = more-locals w _
    by false = more-same w

pub more-prepared : (w : World) (k : Crate) (attrs : List CrateAttribute) (ds : List Dependency) → IsMore w (filling.prepared w k attrs ds)
more-prepared w k attrs ds =
    let v = with_externs_from w k attrs ds 0 ds in
    more-further w v (with_attributes v k attrs) (more-dependencies w k attrs ds 0 ds) (more-settings v k (map setting_of attrs))

-- ---- Entries of lists, and textual macros

more-entry : (w : World) (m : ModuleId) (e : ScopeEntry) → IsMore w (with_entry w m e)
more-entry w m e = by (scope_if_known w m)
  where
    by : (o : Option Scope) → IsMore w (with_entry_in w m e o)
    by None = more-same w
    by (Some s) = more-scope w m (entered s e)

more-rows : (w : World) (n : ℕ) (rs : List ExternCrateRow) → IsMore w (rows.with_extern_rows w n rs)
more-rows w n [] = more-same w
more-rows w n (r ∷ rs) =
    let v = rows.with_extern_row w n r in
    more-further w v (rows.with_extern_rows v (n + 1) rs) (by (knows w (held.Module r.home))) (more-rows v (n + 1) rs)
  where
    by : (b : Bool) → IsMore w (cond b (with_entry w r.home (entry.ExternCrate (record { 0 = n }))) w)
    by true = more-entry w r.home (entry.ExternCrate (record { 0 = n }))
    by false = more-same w

more-legacy : (w : World) (m : ModuleId) (n : Name) (id : MacroId) → IsMore w (textual.with_legacy w m n id)
more-legacy w m n id = by (scope_if_known w m)
  where
    by : (o : Option Scope) → IsMore w (textual.with_legacy_in w m n id o)
    by None = more-same w
    by (Some s) = more-scope w m (record s { legacy_macros = add_to_list same_name s.legacy_macros n id })

more-named : (w : World) (m : ModuleId) (id : Option MacroId) (n : Option Name) → IsMore w (textual.with_named w m id n)
more-named w m None n = more-same w
more-named w m (Some id) None = more-same w
more-named w m (Some id) (Some n) = more-legacy w m n id

module _ (xs : List DeclaredItem) (ids : List (Option MacroId)) where
  more-textual : (w : World) (m : ModuleId) (ts : List TextualMacro) → IsMore w (textual.with_textual xs ids w m ts)
  more-textual w m [] = more-same w
  more-textual w m (t ∷ ts) =
      let v = textual.with_item xs ids w m t.number in
      more-further w v (textual.with_textual xs ids v m ts) (more-named w m (textual.macro_at ids t.number) (name_at xs t.number)) (more-textual v m ts)

  more-scope_of : (w : World) (m : Option ModuleId) (ts : List TextualMacro) → IsMore w (textual.with_scope_of xs ids w m ts)
  more-scope_of w None ts = more-same w
  more-scope_of w (Some m) ts = more-textual w m ts

  pub more-scopes : (modules : Ids) (w : World) (n : ℕ) (ss : Scopes) → IsMore w (textual.with_scopes_from xs ids modules w n ss)
  more-scopes modules w n [] = more-same w
  more-scopes modules w n (s ∷ ss) =
      let v = textual.with_scope_of xs ids w (id_at modules n) s in
      more-further w v (textual.with_scopes_from xs ids modules v (n + 1) ss) (more-scope_of w (id_at modules n) s) (more-scopes modules v (n + 1) ss)

-- ---- Variants

pub more-variant_of : (w : World) (e : EnumId) (v : DeclaredVariant) → IsMore w (defs.with_variant_of w e v)
more-variant_of w e v = by (has_variant w e v.name)
  where
    by : (b : Bool) → IsMore w (cond b w (defs.with_new_variant w e v))
    by true = more-same w
    by false =
        let u = with_variant w e v.name v.shape in
        more-further w u (defs.with_new_variant w e v) (more-variant w e v.name v.shape) (more-tables u _)

pub more-variants : (w : World) (e : EnumId) (vs : List DeclaredVariant) → IsMore w (defs.with_variants w e vs)
more-variants w e [] = more-same w
more-variants w e (v ∷ vs) =
    let u = defs.with_variant_of w e v in
    more-further w u (defs.with_variants u e vs) (more-variant_of w e v) (more-variants u e vs)

pub more-variants_of : (w : World) (d : ModuleDefId) (vs : List DeclaredVariant) → IsMore w (defs.with_variants_of w d vs)
more-variants_of w (def.AdtId (adt.EnumId e)) vs = more-variants w e vs
more-variants_of w _ vs = more-same w

module _ (c : CrateView) where
  -- ---- Modules

  more-one : (s : maps.Filled) (m : Option NewModule) → IsMore s.world (maps.with_one c s m).world
  more-one s None = more-same s.world
  more-one s (Some m) = by (id_at s.table.ids m.parent)
    where
      child : (p : ModuleId) (v : Visibility) (b : Bool) → IsMore s.world (cond b s.world (with_module s.world p m.name (origin_of c.edition m) v))
      child p v true = more-same s.world
      child p v false = more-module s.world p m.name (origin_of c.edition m) v

      by : (o : Option ModuleId) → IsMore s.world (maps.below c s m o).world
      by None = more-same s.world
      by (Some p) = child p _ (has_child s.world p m.name)

  pub more-modules : (s : maps.Filled) (ms : List Module) → IsMore s.world (maps.with_modules c s ms).world
  more-modules s [] = more-same s.world
  more-modules s (m ∷ ms) =
      let next = maps.with_one c s (new_module c m) in
      more-further s.world next.world (maps.with_modules c next ms).world (more-one s (new_module c m)) (more-modules next ms)

  -- ---- Definitions, and visibilities as they are written

  more-defined : (s : maps.Filled) (x : DeclaredItem) (m : ModuleId) (v e : Visibility) (o : Option Kind) (vs : List DeclaredVariant) → IsMore s.world (defs.defined_if s x m v e o vs).world
  more-defined s x m v e None vs = more-same s.world
  more-defined s x m v e (Some k) vs =
      let u = with_item s.world k m in
      let d = item_def k (length s.world.items) in
      more-further s.world u (defs.with_variants_of u d vs) (more-item s.world k m) (more-variants_of u d vs)

  more-declared : (s : maps.Filled) (x : DeclaredItem) (o : Option ModuleId) → IsMore s.world (defs.added_if c s x o).world
  more-declared s x None = more-same s.world
  more-declared s x (Some m) =
      more-defined s x m (defs.visibility_in c s.table x m) (defs.constructor_in c s.table x m) (defs.def_kind x.kind) (declared_variants c.options c.list c.files x)

  pub more-items : (s : maps.Filled) (xs : List DeclaredItem) → IsMore s.world (defs.with_items c s xs).world
  more-items s [] = more-same s.world
  more-items s (x ∷ xs) =
      let next = defs.with_declared c s x in
      more-further s.world next.world (defs.with_items c next xs).world (more-declared s x (id_at s.table.ids x.«module»)) (more-items next xs)

  more-raw : (w : World) (p : DefPlace) (d : ModuleDefId) → IsMore w (raws.with_raw_as c w p d)
  more-raw w p (def.AdtId (adt.StructId n)) = more-tables w _
  more-raw w p (def.AdtId (adt.UnionId n)) = more-tables w _
  more-raw w p (def.TraitId n) = more-tables w _
  more-raw w p _ = more-same w

  pub more-raws : (w : World) (ps : List DefPlace) → IsMore w (raws.with_raw_visibilities c w ps)
  more-raws w [] = more-same w
  more-raws w (p ∷ ps) =
      let v = raws.with_raw_as c w p p.def in
      more-further w v (raws.with_raw_visibilities c v ps) (more-raw w p p.def) (more-raws v ps)

  pub more-written : (s : maps.Filled) (xs : List DeclaredItem) → IsMore s.world (raws.with_written_items c s xs).world
  more-written s xs =
      let next = defs.with_items c s xs in
      more-further s.world next.world (raws.with_raw_visibilities c next.world next.table.defs) (more-items s xs) (more-raws next.world next.table.defs)

  -- ---- Macros and uses

  pub more-macros : (s : macros.WithMacros) (xs : List DeclaredItem) → IsMore s.world (macros.with_macros c s xs).world
  more-macros s [] = more-same s.world
  more-macros s (x ∷ xs) =
      let next = macros.with_macro_item c s x in
      more-further s.world next.world (macros.with_macros c next xs).world (by (macros.macro_loc c x)) (more-macros next xs)
    where
      of : (l : MacroLoc) (o : Option ModuleId) → IsMore s.world (macros.added_in c s x o l).world
      of l None = more-same s.world
      of l (Some m) = more-macro s.world m l

      by : (o : Option MacroLoc) → IsMore s.world (macros.added_by c s x o).world
      by None = more-same s.world
      by (Some l) = of l (id_at s.table.ids x.«module»)

  pub more-uses : (t : uses.Textual) (s : maps.Filled) (i : ℕ) (xs : List DeclaredItem) → IsMore s.world (uses.with_uses_from c t s i xs).world
  more-uses t s i [] = more-same s.world
  more-uses t s i (x ∷ xs) =
      let next = uses.with_use_item c t s i x in
      more-further s.world next.world (uses.with_uses_from c t next (i + 1) xs).world (by (uses.is_use x.kind)) (more-uses t next (i + 1) xs)
    where
      of : (o : Option ModuleId) → IsMore s.world (uses.used_if c t s i x o).world
      of None = more-same s.world
      of (Some m) = more-use s.world m

      by : (b : Bool) → IsMore s.world (cond b (uses.used_in c t s i x) s).world
      by true = of (id_at s.table.ids x.«module»)
      by false = more-same s.world

  pub more-procedural : (s : maps.Filled) (xs : List DeclaredItem) → IsMore s.world (procedural.with_procedural_macros c s xs).world
  more-procedural s [] = more-same s.world
  more-procedural s (x ∷ xs) =
      let next = procedural.with_procedural_macro c s x in
      more-further s.world next.world (procedural.with_procedural_macros c next xs).world (by (procedural.made_of c x)) (more-procedural next xs)
    where
      by : (o : Option ProceduralMacro) → IsMore s.world (procedural.added_if c.krate s x o).world
      by None = more-same s.world
      by (Some p) = more-macro s.world (root_id c.krate) (procedural.loc_of p)

  -- the macros in textual scope, and the uses behind them
  pub more-in_scope : (made : macros.WithMacros) (xs : List DeclaredItem) → IsMore made.world (filling.in_scope c made xs).world
  more-in_scope made xs =
      let text = filling.textual_in c made xs in
      let given = filling.scopes_given made text in
      more-further made.world given.world (uses.with_uses c text given).world (more-scopes xs made.ids made.table.ids made.world 0 text.scopes) (more-uses text given 0 xs)

  pub more-macros_in_scope : (s : maps.Filled) (xs : List DeclaredItem) → IsMore s.world (filling.with_macros_in_scope c s xs).world
  more-macros_in_scope s xs =
      let made = macros.with_macros c (record { world = s.world; table = s.table; ids = [] }) xs in
      more-further s.world made.world (filling.in_scope c made xs).world (more-macros (record { world = s.world; table = s.table; ids = [] }) xs) (more-in_scope made xs)

  pub more-all_macros : (s : maps.Filled) (xs : List DeclaredItem) → IsMore s.world (filling.with_all_macros c s xs).world
  more-all_macros s xs =
      let next = filling.with_macros_in_scope c s xs in
      more-further s.world next.world (procedural.with_procedural_macros c next xs).world (more-macros_in_scope s xs) (more-procedural next xs)

  -- ---- Extern crates

  -- nor has it fewer extern crates
  pub record IsMoreLinked (s t : externs.Linked) : Type 0 where
    pub world : IsMore s.world t.world
    pub rows : length s.rows ≤ length t.rows

  linked-same : (s : externs.Linked) → IsMoreLinked s s
  linked-same s = record { world = more-same s.world; rows = omega arith }

  linked-further : (r s t : externs.Linked) → IsMoreLinked r s → IsMoreLinked s t → IsMoreLinked r t
  linked-further r s t a b = record { world = more-further r.world s.world t.world a.world b.world; rows = omega (arith, a.rows, b.rows) }

  module _ (ds : List Dependency) where
    more-linked : (s : externs.Linked) (x : DeclaredItem) (m : ModuleId) (root : Option ModuleId) → IsMoreLinked s (externs.linked_so c s x m root)
    more-linked s x m root = record { world = by root; rows = more-push s.rows (externs.row_of m x root) }
      where
        named : (r : ModuleId) (n : Option Name) → IsMore s.world (externs.with_entry s.world c.krate n r (externs.next_extern s.rows))
        named r None = more-same s.world
        named r (Some n) = more-locals s.world _

        of : (r : ModuleId) (b : Bool) → IsMore s.world (cond b (externs.with_entry s.world c.krate x.name r (externs.next_extern s.rows)) s.world)
        of r true = named r x.name
        of r false = more-same s.world

        by : (o : Option ModuleId) → IsMore s.world (externs.entered_if s.world c.krate x (externs.next_extern s.rows) o)
        by None = more-same s.world
        by (Some r) = of r (x.«module» == 0)

    pub more-externs : (s : externs.Linked) (xs : List DeclaredItem) → IsMoreLinked s (externs.with_extern_crates c ds s xs)
    more-externs s [] = linked-same s
    more-externs s (x ∷ xs) =
        let next = externs.with_extern_crate c ds s x in
        linked-further s next (externs.with_extern_crates c ds next xs) (by (externs.is_extern_crate x.kind)) (more-externs next xs)
      where
        of : (o : Option ModuleId) → IsMoreLinked s (externs.linked_if c ds s x o)
        of None = linked-same s
        of (Some m) = more-linked s x m (externs.linked_root c.krate ds (linked_crate c.list c.files x))

        by : (b : Bool) → IsMoreLinked s (cond b (externs.linked_in c ds s x) s)
        by true = of (id_at s.table.ids x.«module»)
        by false = linked-same s

-- ---- Lists of scopes

more-unnamed : (w : World) (m : ModuleId) (d : ModuleDefId) → IsMore w (scopes.unnamed w m d)
more-unnamed w m (def.ConstId k) = more-entry w m (entry.UnnamedConst k)
more-unnamed w m _ = more-same w

more-listed_if : (w : World) (m : ModuleId) (b : Bool) (o : Option ModuleDefId) → IsMore w (scopes.listed_if w m b o)
more-listed_if w m b None = more-same w
more-listed_if w m true (Some d) = more-entry w m (entry.Declaration d)
more-listed_if w m false (Some d) = more-unnamed w m d

more-macro_if : (w : World) (m : ModuleId) (o : Option ModuleDefId) → IsMore w (scopes.with_macro w m o)
more-macro_if w m None = more-same w
more-macro_if w m (Some d) = more-entry w m (entry.Declaration d)

more-listed : (ms : List Module) (t : Table) (w : World) (x : ItemOutline) (o : Option ModuleId) → IsMore w (scopes.with_listed ms t w x o)
more-listed ms t w x None = more-same w
more-listed ms t w x (Some m) =
    let found = indexes.def_at true t.defs (indexes.key_at m x.file x.item) in
    let v = scopes.with_macro w m found in
    more-further w v (scopes.listed_if v m x.is_named (scopes.def_of ms t x m)) (more-macro_if w m found) (more-listed_if v m x.is_named (scopes.def_of ms t x m))

more-lists : (ms : List Module) (t : Table) (w : World) (xs : List ItemOutline) → IsMore w (scopes.with_scope_lists ms t w xs)
more-lists ms t w [] = more-same w
more-lists ms t w (x ∷ xs) =
    let v = scopes.with_listed ms t w x (id_at t.ids x.home) in
    more-further w v (scopes.with_scope_lists ms t v xs) (more-listed ms t w x (id_at t.ids x.home)) (more-lists ms t v xs)

-- ---- All items of a crate

module _ (c : CrateView) (items : List DeclaredItem) where
  pub more-listings : (s : externs.Linked) (n : ℕ) → IsMoreLinked c s (filling.listed c s n items)
  more-listings s n =
      let lists = scopes.with_scope_lists c.list.modules s.table s.world (map scopes.outline items) in
      let listed = rows.with_extern_rows lists n (drop n s.rows) in
      record {
        world = more-further s.world lists (pairs.with_pairs c.krate s.table listed) (more-lists c.list.modules s.table s.world (map scopes.outline items))
            (more-further lists listed (pairs.with_pairs c.krate s.table listed) (more-rows lists n (drop n s.rows)) (more-settings listed c.krate (flat_map (pairs.pair_of s.table.defs) s.table.defs)));
        rows = omega arith;
      }

  pub more-others : (s : externs.Linked) → IsMoreLinked c s (filling.others_added c s items)
  more-others s = record { world = more-written c (record { world = s.world; table = s.table }) items; rows = omega arith }

  pub more-macros_added : (s : externs.Linked) → IsMoreLinked c s (filling.macros_added c s items)
  more-macros_added s = record { world = more-all_macros c (record { world = s.world; table = s.table }) items; rows = omega arith }

  pub linked-later : (r s t : externs.Linked) → IsMoreLinked c r s → IsMoreLinked c s t → IsMoreLinked c r t
  linked-later = linked-further c

  pub crowded-on : (s t : externs.Linked) → IsMoreLinked c s t → filling.is_crowded s ≡ true → filling.is_crowded t ≡ true
  crowded-on s t more = or-on (has_too_many s.world) (is_past (length s.rows)) (has_too_many t.world) (is_past (length t.rows)) (many-on s.world t.world more.world) (rows-past more.rows)
    where
      rows-past : length s.rows ≤ length t.rows → is_past (length s.rows) ≡ true → is_past (length t.rows) ≡ true
      rows-past = past-on (length s.rows) (length t.rows)

  pub more-all_items : (ds : List Dependency) (s : externs.Linked) → IsMoreLinked c s (filling.with_all_items c ds s items)
  unfolding filling.with_all_items
  more-all_items ds s =
      let a = filling.blocks_added c s items in
      let b = externs.with_extern_crates c ds a items in
      let d = filling.macros_added c b items in
      let e = filling.others_added c d items in
      let last = filling.listed c e (length s.rows) items in
      let two = more-externs c ds a items in
      linked-further c s b last (record { world = two.world; rows = two.rows })
      (linked-further c b d last (more-macros_added b) (linked-further c d e last (more-others d) (more-listings e (length s.rows))))
