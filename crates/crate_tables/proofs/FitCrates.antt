-- What a crate has in a builder is known, as its modules and items are added.
use Rattle.std.proofs.Common.{◌≡◌, ◌+◌, ℕ, Bool, true, false, cond, List, [], ◌∷◌, ◌++◌, Option, None, Some, drop, length, map, slice_get, refl, subst, sym}
use Rattle.std.specs.Prelude.{◌==◌, IfSome, take, unwrap_or}
use Rattle.std.specs.List.{AllByRecursion, flat_map}
use Rattle.crate_tables.proofs.AllLemmas.{all-append, all-push, all-weaker}
use Rattle.crate_tables.proofs.ExternLemmas.{linked-known}
use Rattle.crate_tables.proofs.FitFree.{IsFreeVariant, fields-free, variants-free, visibility-free}
use Rattle.crate_tables.proofs.FitLemmas.{IsFit, Known}
use Rattle.crate_tables.proofs.FitMaps.{goes-module, goes-settings, new-module, setting_holds}
use Rattle.crate_tables.proofs.FitScopes.{AreMacrosOf, goes-entry, goes-rows, goes-scopes, macros-on}
use Rattle.crate_tables.proofs.FitSteps.{Goes, all-wider, goes-extern, goes-fields, goes-further, goes-item, goes-macro, goes-same, goes-trait, goes-use, goes-variant, new-item, new-macro, new-use, new-variant}
use Rattle.crate_tables.proofs.GrownLemmas.{ids-more}
use Rattle.crate_items.specs.DeclaredImports.{declared_imports}
use Rattle.crate_items.specs.DeclaredItems.{linked_crate}
use Rattle.crate_items.specs.DeclaredMacros.{is_macro_exported}
use Rattle.crate_items.specs.DeclaredModules.{Module}
use Rattle.crate_items.specs.DeclaredVariants.{declared_variants}
use Rattle.crate_items.specs.Constructors.{constructor_visibility}
use Rattle.crate_items.specs.Modules.{Listing}
use Rattle.crate_items.specs.TextualScopes.{Scopes}
use Rattle.crate_items.specs.declared.files.dependency.Dependency.{Dependency}
use Rattle.crate_items.specs.declared.items.crate_attributes.CrateAttribute.{CrateAttribute}
use Rattle.crate_items.specs.declared.items.crate_attributes.CrateAttribute.TheVariants as sets
use Rattle.crate_items.specs.declared.items.declared_import.DeclaredImport.{DeclaredImport}
use Rattle.crate_items.specs.declared.items.declared_item.DeclaredItem.{DeclaredItem}
use Rattle.crate_items.specs.declared.items.declared_variant.DeclaredVariant.{DeclaredVariant}
use Rattle.crate_items.specs.declared.macros.procedural_macro.ProceduralMacro.{ProceduralMacro}
use Rattle.crate_items.specs.declared.modules.module_visibility.DeclaredVisibility.{DeclaredVisibility}
use Rattle.crate_items.specs.declared.modules.module_visibility.DeclaredVisibility.TheVariants as shown
use Rattle.crate_tables.specs.AllLists as lists
use Rattle.crate_tables.specs.Blocks as blocks
use Rattle.crate_tables.specs.CrateDefs as defs
use Rattle.crate_tables.specs.CrateMacros as macros
use Rattle.crate_tables.specs.CrateMaps as maps
use Rattle.crate_tables.specs.CrateRoots.{is_extern, root_holds, root_id, with_extern, with_externs_from}
use Rattle.crate_tables.specs.CrateTables.{IsMacroOf, Table, def_at, left_out, use_at, with_def_at, with_id, with_named}
use Rattle.crate_tables.specs.CrateUses as uses
use Rattle.crate_tables.specs.DefIndexes as indexes
use Rattle.crate_tables.specs.ExternCrates as externs
use Rattle.crate_tables.specs.ExternLists.{with_extern_rows}
use Rattle.crate_tables.specs.ModuleIndexes.{declared_by}
use Rattle.crate_tables.specs.NewModules.{CrateView, is_macro_root, new_module, origin_of}
use Rattle.crate_tables.specs.ProceduralMacros as procedural
use Rattle.crate_tables.specs.ProceduralPairs as pairs
use Rattle.crate_tables.specs.RawVisibilities as raws
use Rattle.crate_tables.specs.ScopeLists as scopes
use Rattle.crate_tables.specs.StandardPreludes.{setting_of, with_attributes}
use Rattle.crate_tables.specs.Visibilities.{AreIdsOf, Ids, id_at, public_in, visibility_of, within}
use Rattle.crate_tables.specs.declared.extern_crates.ExternCrateRow.{ExternCrateRow}
use Rattle.crate_tables.specs.declared.item_outline.ItemOutline.{ItemOutline}
use Rattle.crate_tables.specs.declared.item_place.BlockKind.{BlockKind}
use Rattle.crate_tables.specs.declared.item_place.DefPlace.{DefPlace}
use Rattle.crate_tables.specs.declared.item_place.UsePlace.{UsePlace}
use Rattle.crate_tables.specs.declared.new_module.NewModule.{NewModule}
use Rattle.crate_tables.specs.declared.scope_entry.ScopeEntry.TheVariants as entry
use Rattle.dm_base.specs.Names.{Name}
use Rattle.dm_base.specs.PerNs.{macro_alone}
use Rattle.dm_base.specs.declared.edition.Edition.{Edition}
use Rattle.dm_base.specs.declared.ids.ConstId.{ConstId}
use Rattle.dm_base.specs.declared.ids.Crate.{Crate}
use Rattle.dm_base.specs.declared.ids.EnumId.{EnumId}
use Rattle.dm_base.specs.declared.ids.ExternCrateId.{ExternCrateId}
use Rattle.dm_base.specs.declared.ids.FunctionId.{FunctionId}
use Rattle.dm_base.specs.declared.ids.ModuleId.{ModuleId}
use Rattle.dm_base.specs.declared.item_ids.AdtId.TheVariants as adt
use Rattle.dm_base.specs.declared.item_ids.ItemKind.{ItemKind as Kind}
use Rattle.dm_base.specs.declared.item_ids.ItemKind.TheVariants as kind
use Rattle.dm_base.specs.declared.item_ids.MacroId.{MacroId}
use Rattle.dm_base.specs.declared.item_ids.MacroId.TheVariants as which
use Rattle.dm_base.specs.declared.item_ids.ModuleDefId.{ModuleDefId}
use Rattle.dm_base.specs.declared.item_ids.ModuleDefId.TheVariants as def
use Rattle.dm_base.specs.declared.item_ids.VariantId.{VariantId}
use Rattle.dm_base.specs.declared.item_ids.VariantId.TheVariants as variant
use Rattle.dm_base.specs.declared.macros.MacroLoc.{MacroLoc}
use Rattle.dm_base.specs.declared.per_ns.PerNs.{PerNs}
use Rattle.dm_base.specs.declared.visibility.Visibility.{Visibility}
use Rattle.dm_base.specs.declared.visibility.Visibility.TheVariants.{PubCrate, Public}
use Rattle.dm_def_map.specs.declared.crate_data.crate_setting.CrateSetting.{CrateSetting}
use Rattle.dm_def_map.specs.declared.modules.module_origin.ModuleOrigin.{ModuleOrigin}
use Rattle.dm_maps.specs.Build.{item_def, next_module, with_item, with_module}
use Rattle.dm_maps.specs.BuildItems.{next_use, with_macro, with_use}
use Rattle.dm_maps.specs.BuildMaps.{with_extern_of}
use Rattle.dm_maps.specs.Faults.{has_child}
use Rattle.dm_maps.specs.Holding.{def_holds, vis_holds}
use Rattle.dm_maps.specs.ItemFaults.{has_variant}
use Rattle.dm_maps.specs.Known.{KnowsAll, knows}
use Rattle.dm_maps.specs.TablesHold.{raw_holds}
use Rattle.dm_maps.specs.World.{World}
use Rattle.dm_maps.specs.declared.check.held.HeldId.{HeldId}
use Rattle.dm_maps.specs.declared.check.held.HeldId.TheVariants as held
use Rattle.item_tree.specs.declared.items.item_kind.ItemKind.{ItemKind}
use Rattle.item_tree.specs.declared.items.item_kind.ItemKind.TheVariants as item
use Rattle.item_tree.specs.declared.items.visibility.RawVisibility.{RawVisibility}
use Rattle.item_tree.specs.declared.items.visibility.RawVisibility.TheVariants as written

abbrev pub IsKnownDef : World → DefPlace → Type 0
IsKnownDef w p = KnowsAll w (def_holds p.def)

abbrev IsKnownUse : World → UsePlace → Type 0
IsKnownUse w p = Known w (held.Use p.use_)

-- the modules, uses and definitions of a crate's table are the world's
pub record IsFitTable (w : World) (t : Table) : Type 0 where
  pub ids : AreIdsOf w t.ids
  pub uses : AllByRecursion (IsKnownUse w) t.uses
  pub defs : AllByRecursion (IsKnownDef w) t.defs

-- v knows what w knows, and all that it and a table hold
pub record Fills (w v : World) (t : Table) : Type 0 where
  pub goes : Goes w v
  pub table : IsFitTable v t

pub table-on : (w v : World) (t : Table) → Goes w v → IsFitTable w t → IsFitTable v t
table-on w v t goes is = record {
  ids = λ n m e. goes.wider (held.Module m) (is.ids n m e);
  uses = all-weaker (IsKnownUse w) (IsKnownUse v) (λ p k. goes.wider (held.Use p.use_) k) t.uses is.uses;
  defs = all-weaker (IsKnownDef w) (IsKnownDef v) (λ p k. all-wider w v goes (def_holds p.def) k) t.defs is.defs;
}

pub fills-further : (u v w : World) (t : Table) → Goes u v → Fills v w t → Fills u w t
fills-further u v w t goes fills = record { goes = goes-further u v w goes fills.goes; table = fills.table }

pub fills-same : (w : World) (t : Table) → IsFit w → IsFitTable w t → Fills w w t
fills-same w t is table = record { goes = goes-same w is; table = table }

fills-by : (w v : World) (t : Table) → Goes w v → IsFitTable w t → Fills w v t
fills-by w v t goes table = record { goes = goes; table = table-on w v t goes table }

-- ---- Tables with more

pub named-fits : (w : World) (t : Table) (m : ModuleId) (n : Option Name) (items : PerNs) → IsFitTable w t → IsFitTable w (with_named t m n items)
named-fits w t m None items is = is
named-fits w t m (Some n) items is = record { ids = is.ids; uses = is.uses; defs = is.defs }

pub def-fits : (w : World) (t : Table) (p : DefPlace) → IsFitTable w t → IsKnownDef w p → IsFitTable w (with_def_at t p)
def-fits w t p is k = record { ids = is.ids; uses = is.uses; defs = all-push (IsKnownDef w) t.defs p is.defs k }

out-fits : (w : World) (t : Table) → IsFitTable w t → IsFitTable w (left_out t)
out-fits w t is = record { ids = ids-more w t.ids None is.ids tt; uses = is.uses; defs = is.defs }

-- ---- Visibilities

module-or : (w : World) (ids : Ids) (n : ℕ) (m : ModuleId) → AreIdsOf w ids → Known w (held.Module m) → Known w (held.Module (unwrap_or (id_at ids n) m))
module-or w ids n m are known = by (id_at ids n) refl
  where
    by : (o : Option ModuleId) → id_at ids n ≡ o → Known w (held.Module (unwrap_or o m))
    by None e = known
    by (Some x) e = are n x e

public-fits : (w : World) (closed : Bool) (k : Crate) → Known w (held.Crate k) → KnowsAll w (vis_holds (public_in closed k))
public-fits w true k known = (known, tt)
public-fits w false k known = tt

within-fits : (w : World) (k : Crate) (m : ModuleId) (v : RawVisibility) → Known w (held.Crate k) → Known w (held.Module m) → KnowsAll w (vis_holds (within k m v))
within-fits w k m written.Inherited kc km = (km, tt)
within-fits w k m written.Public kc km = (km, tt)
within-fits w k m written.PubCrate kc km = (kc, tt)
within-fits w k m written.PubSuper kc km = (km, tt)
within-fits w k m written.PubSelf kc km = (km, tt)
within-fits w k m (written.In r) kc km = (km, tt)
within-fits w k m written.Error kc km = (km, tt)

vis-fits : (w : World) (closed : Bool) (k : Crate) (ids : Ids) (m : ModuleId) (v : RawVisibility) (s : Option DeclaredVisibility)
    → Known w (held.Crate k) → AreIdsOf w ids → Known w (held.Module m) → KnowsAll w (vis_holds (visibility_of closed k ids m v s))
vis-fits w closed k ids m v None kc are km = public-fits w closed k kc
vis-fits w closed k ids m v (Some shown.Public) kc are km = public-fits w closed k kc
vis-fits w closed k ids m v (Some (shown.Within n)) kc are km = within-fits w k (unwrap_or (id_at ids n) m) v kc (module-or w ids n m are km)

-- ---- Attributes and extern preludes

attributes-free : (w : World) (attrs : List CrateAttribute) → AllByRecursion (λ s. KnowsAll w (setting_holds s)) (map setting_of attrs)
attributes-free w [] = tt
attributes-free w (sets.NoStd ∷ attrs) = (tt, attributes-free w attrs)
attributes-free w (sets.NoCore ∷ attrs) = (tt, attributes-free w attrs)
attributes-free w (sets.CoherenceIsCore ∷ attrs) = (tt, attributes-free w attrs)
attributes-free w (sets.RecursionLimit limit ∷ attrs) = (tt, attributes-free w attrs)
attributes-free w (sets.Feature feature ∷ attrs) = (tt, attributes-free w attrs)

pub goes-attributes : (w : World) (k : Crate) (attrs : List CrateAttribute) → IsFit w → Goes w (with_attributes w k attrs)
goes-attributes w k attrs is = goes-settings w k (map setting_of attrs) is (attributes-free w attrs)

pub goes-externs : (w : World) (k : Crate) (attrs : List CrateAttribute) (all : List Dependency) (n : ℕ) (ds : List Dependency)
    → IsFit w → KnowsAll w (map externs.held_root ds) → Goes w (with_externs_from w k attrs all n ds)
goes-externs w k attrs all n [] is known = goes-same w is
goes-externs w k attrs all n (d ∷ ds) is known =
    let v = with_extern w k attrs (take n all) d in
    let one = by (is_extern attrs (take n all) d) in
    goes-further w v (with_externs_from v k attrs all (n + 1) ds) one (goes-externs v k attrs all (n + 1) ds one.fit (all-wider w v one (map externs.held_root ds) known.1))
  where
    by : (b : Bool) → Goes w (cond b (with_extern_of w k d.name (root_id d.crate_id) None) w)
    by true = goes-extern w k d.name (root_id d.crate_id) None is known.0
    by false = goes-same w is

-- ---- Modules

child-fills : (w : World) (t : Table) (p : ModuleId) (n : Name) (o : ModuleOrigin) (v : Visibility) → IsFit w → IsFitTable w t → Known w (held.Module p) → KnowsAll w (vis_holds v)
    → Fills w (maps.child_world w p n o v) (with_id t p n v (maps.child_id w p n))
child-fills w t p n o v is table kp kv = by (has_child w p n)
  where
    by : (b : Bool) → Fills w (cond b w (with_module w p n o v)) (with_id t p n v (cond b None (Some (next_module w))))
    by true = fills-same w (left_out t) is (out-fits w t table)
    by false =
        let u = with_module w p n o v in
        let goes = goes-module w p n o v is kv in
        let on = table-on w u t goes table in
        record { goes = goes; table = record { ids = ids-more u t.ids (Some (next_module w)) on.ids (new-module w p n o v kp); uses = on.uses; defs = on.defs } }

module _ (c : CrateView) where
  one-fills : (s : maps.Filled) (m : Option NewModule) → IsFit s.world → IsFitTable s.world s.table → Known s.world (held.Crate c.krate)
      → Fills s.world (maps.with_one c s m).world (maps.with_one c s m).table
  one-fills s None is table kc = fills-same s.world (left_out s.table) is (out-fits s.world s.table table)
  one-fills s (Some m) is table kc = by (id_at s.table.ids m.parent) refl
    where
      by : (o : Option ModuleId) → id_at s.table.ids m.parent ≡ o → Fills s.world (maps.below c s m o).world (maps.below c s m o).table
      by None e = fills-same s.world (left_out s.table) is (out-fits s.world s.table table)
      by (Some p) e =
          let kp = table.ids m.parent p e in
          child-fills s.world s.table p m.name (origin_of c.edition m) _ is table kp
          (vis-fits s.world (is_macro_root c m.parent) c.krate s.table.ids p m.written m.shown kc table.ids kp)

  pub modules-fill : (s : maps.Filled) (ms : List Module) → IsFit s.world → IsFitTable s.world s.table → Known s.world (held.Crate c.krate)
      → Fills s.world (maps.with_modules c s ms).world (maps.with_modules c s ms).table
  modules-fill s [] is table kc = fills-same s.world s.table is table
  modules-fill s (m ∷ ms) is table kc =
      let next = maps.with_one c s (new_module c m) in
      let one = one-fills s (new_module c m) is table kc in
      fills-further s.world next.world (maps.with_modules c next ms).world (maps.with_modules c next ms).table one.goes
      (modules-fill next ms one.goes.fit one.table (one.goes.wider (held.Crate c.krate) kc))

  -- ---- Blocks: the table alone has them.

  pub blocks-fit : (w : World) (l : Listing) (t : Table) (xs : List DeclaredItem) → IsFitTable w t → IsFitTable w (blocks.with_blocks l t xs)
  blocks-fit w l t [] is = is
  blocks-fit w l t (x ∷ xs) is = blocks-fit w l (blocks.with_item l t x) xs (by (blocks.block_kind l x))
    where
      of : (k : BlockKind) (o : Option ModuleId) → IsFitTable w (blocks.block_in t x k o)
      of k None = is
      of k (Some m) = record { ids = is.ids; uses = is.uses; defs = is.defs }

      by : (k : Option BlockKind) → IsFitTable w (blocks.with_block_if t x k)
      by None = is
      by (Some k) = of k (id_at t.ids x.«module»)

  -- ---- Extern crates

  module _ (ds : List Dependency) where
    linked-fills : (s : externs.Linked) (x : DeclaredItem) (m : ModuleId) (root : Option ModuleId) → IsFit s.world → IsFitTable s.world s.table
        → IfSome root (λ r. Known s.world (held.Module r)) → Fills s.world (externs.linked_so c s x m root).world (externs.linked_so c s x m root).table
    linked-fills s x m None is table known = fills-same s.world s.table is table
    linked-fills s x m (Some r) is table known =
        let id = externs.next_extern s.rows in
        record {
          goes = by (x.«module» == 0);
          table = named-fits _ s.table m x.name (externs.root_name r (defs.visibility_in c s.table x m) id) (table-on s.world _ s.table (by (x.«module» == 0)) table);
        }
      where
        of : (n : Option Name) → Goes s.world (externs.with_entry s.world c.krate n r (externs.next_extern s.rows))
        of None = goes-same s.world is
        of (Some n) = goes-extern s.world c.krate n r (Some (externs.next_extern s.rows)) is known

        by : (b : Bool) → Goes s.world (cond b (externs.with_entry s.world c.krate x.name r (externs.next_extern s.rows)) s.world)
        by true = of x.name
        by false = goes-same s.world is

    extern-fills : (s : externs.Linked) (x : DeclaredItem) → IsFit s.world → IsFitTable s.world s.table → KnowsAll s.world (externs.linkable c.krate ds)
        → Fills s.world (externs.with_extern_crate c ds s x).world (externs.with_extern_crate c ds s x).table
    extern-fills s x is table known = by (externs.is_extern_crate x.kind)
      where
        of : (o : Option ModuleId) → Fills s.world (externs.linked_if c ds s x o).world (externs.linked_if c ds s x o).table
        of None = fills-same s.world s.table is table
        of (Some m) = linked-fills s x m (externs.linked_root c.krate ds (linked_crate c.list c.files x)) is table (linked-known s.world c.krate ds (linked_crate c.list c.files x) known)

        by : (b : Bool) → Fills s.world (cond b (externs.linked_in c ds s x) s).world (cond b (externs.linked_in c ds s x) s).table
        by true = of (id_at s.table.ids x.«module»)
        by false = fills-same s.world s.table is table

    pub externs-fill : (s : externs.Linked) (xs : List DeclaredItem) → IsFit s.world → IsFitTable s.world s.table → KnowsAll s.world (externs.linkable c.krate ds)
        → Fills s.world (externs.with_extern_crates c ds s xs).world (externs.with_extern_crates c ds s xs).table
    externs-fill s [] is table known = fills-same s.world s.table is table
    externs-fill s (x ∷ xs) is table known =
        let next = externs.with_extern_crate c ds s x in
        let one = extern-fills s x is table known in
        fills-further s.world next.world (externs.with_extern_crates c ds next xs).world (externs.with_extern_crates c ds next xs).table one.goes
        (externs-fill next xs one.goes.fit one.table (all-wider s.world next.world one.goes (externs.linkable c.krate ds) known))

  -- ---- Macros

  declared-fits : (w : World) (t : Table) (x : DeclaredItem) (m : ModuleId) (id : MacroId) (k : ItemKind) → IsFitTable w t → IsFitTable w (macros.declared_as c t x m id k)
  declared-fits w t x m id item.MacroRules is = by (is_macro_exported c.list x)
    where
      by : (b : Bool) → IsFitTable w (cond b (with_named t (root_id c.krate) x.name (macro_alone id (public_in c.is_proc_macro c.krate) None)) t)
      by true = named-fits w t (root_id c.krate) x.name _ is
      by false = is
  declared-fits w t x m id _ is = named-fits w t m x.name _ is

  -- a world, a table, and macros that it knows
  pub record FillsMacros (w : World) (s : macros.WithMacros) : Type 0 where
    pub fills : Fills w s.world s.table
    pub ids : AreMacrosOf s.world s.ids

  passed-fills : (s : macros.WithMacros) → IsFit s.world → IsFitTable s.world s.table → AreMacrosOf s.world s.ids → FillsMacros s.world (macros.passed s)
  passed-fills s is table ids = record { fills = fills-same s.world s.table is table; ids = all-push (IsMacroOf s.world) s.ids None ids tt }

  macro-fills : (s : macros.WithMacros) (x : DeclaredItem) → IsFit s.world → IsFitTable s.world s.table → AreMacrosOf s.world s.ids → FillsMacros s.world (macros.with_macro_item c s x)
  macro-fills s x is table ids = by (macros.macro_loc c x)
    where
      of : (l : MacroLoc) (o : Option ModuleId) → FillsMacros s.world (macros.added_in c s x o l)
      of l None = passed-fills s is table ids
      of l (Some m) =
          let id = macros.next_macro s.world l in
          let v = with_macro s.world m l in
          let goes = goes-macro s.world m l is in
          let known = new-macro s.world m l in
          record {
            fills = record {
              goes = goes;
              table = def-fits v (macros.declared_as c s.table x m id x.kind) (def_at (def.MacroId id) m x) (declared-fits v s.table x m id x.kind (table-on s.world v s.table goes table)) (known, tt);
            };
            ids = all-push (IsMacroOf v) s.ids (Some id) (macros-on s.world v s.ids goes ids) (known, tt);
          }

      by : (o : Option MacroLoc) → FillsMacros s.world (macros.added_by c s x o)
      by None = passed-fills s is table ids
      by (Some l) = of l (id_at s.table.ids x.«module»)

  pub macros-fill : (s : macros.WithMacros) (xs : List DeclaredItem) → IsFit s.world → IsFitTable s.world s.table → AreMacrosOf s.world s.ids → FillsMacros s.world (macros.with_macros c s xs)
  macros-fill s [] is table ids = record { fills = fills-same s.world s.table is table; ids = ids }
  macros-fill s (x ∷ xs) is table ids =
      let next = macros.with_macro_item c s x in
      let one = macro-fills s x is table ids in
      let rest = macros-fill next xs one.fills.goes.fit one.fills.table one.ids in
      record { fills = fills-further s.world next.world (macros.with_macros c next xs).world (macros.with_macros c next xs).table one.fills.goes rest.fills; ids = rest.ids }

  -- ---- Uses

  use-fills : (t : uses.Textual) (s : maps.Filled) (i : ℕ) (x : DeclaredItem) → IsFit s.world → IsFitTable s.world s.table
      → Fills s.world (uses.with_use_item c t s i x).world (uses.with_use_item c t s i x).table
  use-fills t s i x is table = by (uses.is_use x.kind)
    where
      of : (o : Option ModuleId) → Fills s.world (uses.used_if c t s i x o).world (uses.used_if c t s i x o).table
      of None = fills-same s.world s.table is table
      of (Some m) =
          let v = with_use s.world m in
          let on = table-on s.world v s.table (goes-use s.world m is) table in
          record {
            goes = goes-use s.world m is;
            table = record { ids = on.ids; uses = all-push (IsKnownUse v) s.table.uses (use_at (next_use s.world) x) on.uses (new-use s.world m); defs = on.defs };
          }

      by : (b : Bool) → Fills s.world (cond b (uses.used_in c t s i x) s).world (cond b (uses.used_in c t s i x) s).table
      by true = of (id_at s.table.ids x.«module»)
      by false = fills-same s.world s.table is table

  pub uses-fill : (t : uses.Textual) (s : maps.Filled) (i : ℕ) (xs : List DeclaredItem) → IsFit s.world → IsFitTable s.world s.table
      → Fills s.world (uses.with_uses_from c t s i xs).world (uses.with_uses_from c t s i xs).table
  uses-fill t s i [] is table = fills-same s.world s.table is table
  uses-fill t s i (x ∷ xs) is table =
      let next = uses.with_use_item c t s i x in
      let one = use-fills t s i x is table in
      fills-further s.world next.world (uses.with_uses_from c t next (i + 1) xs).world (uses.with_uses_from c t next (i + 1) xs).table one.goes
      (uses-fill t next (i + 1) xs one.goes.fit one.table)

  -- ---- Procedural macros

  procedural-fills : (s : maps.Filled) (x : DeclaredItem) (o : Option ProceduralMacro) → IsFit s.world → IsFitTable s.world s.table
      → Fills s.world (procedural.added_if c.krate s x o).world (procedural.added_if c.krate s x o).table
  procedural-fills s x None is table = fills-same s.world s.table is table
  procedural-fills s x (Some p) is table =
      let root = root_id c.krate in
      let l = procedural.loc_of p in
      let id = procedural.next_of s.world p in
      let v = with_macro s.world root l in
      let goes = goes-macro s.world root l is in
      record {
        goes = goes;
        table = def-fits v (with_named s.table root (Some p.name) (macro_alone id Public None)) (def_at (def.MacroId id) root x)
            (named-fits v s.table root (Some p.name) (macro_alone id Public None) (table-on s.world v s.table goes table)) (new-macro s.world root l, tt);
      }

  pub all_procedural-fill : (s : maps.Filled) (xs : List DeclaredItem) → IsFit s.world → IsFitTable s.world s.table
      → Fills s.world (procedural.with_procedural_macros c s xs).world (procedural.with_procedural_macros c s xs).table
  all_procedural-fill s [] is table = fills-same s.world s.table is table
  all_procedural-fill s (x ∷ xs) is table =
      let next = procedural.with_procedural_macro c s x in
      let one = procedural-fills s x (procedural.made_of c x) is table in
      fills-further s.world next.world (procedural.with_procedural_macros c next xs).world (procedural.with_procedural_macros c next xs).table one.goes
      (all_procedural-fill next xs one.goes.fit one.table)
