-- Definitions of a crate, and what the lists of its scopes have of them, are known.
use Rattle.std.proofs.Common.{◌≡◌, ℕ, Bool, true, false, cond, List, [], ◌∷◌, ◌++◌, Option, None, Some, length, refl, subst, sym}
use Rattle.std.specs.List.{AllByRecursion, flat_map}
use Rattle.crate_tables.proofs.AllLemmas.{all-append, all-weaker}
use Rattle.crate_tables.proofs.FitCrates.{Fills, IsFitTable, IsKnownDef, def-fits, fills-further, fills-same, named-fits, table-on}
use Rattle.crate_tables.proofs.FitFree.{IsFreeVariant, fields-free, variants-free, visibility-free}
use Rattle.crate_tables.proofs.FitLemmas.{IsFit, Known}
use Rattle.crate_tables.proofs.FitMaps.{goes-settings, setting_holds}
use Rattle.crate_tables.proofs.FitScopes.{goes-entry}
use Rattle.crate_tables.proofs.FitSteps.{Goes, all-wider, goes-fields, goes-further, goes-item, goes-same, goes-trait, goes-variant, new-item, new-variant}
use Rattle.crate_items.specs.DeclaredFields.{field_visibilities}
use Rattle.crate_items.specs.DeclaredModules.{Module}
use Rattle.crate_items.specs.DeclaredVariants.{declared_variants}
use Rattle.crate_items.specs.RawVisibilities.{item_visibility}
use Rattle.crate_items.specs.declared.items.declared_item.DeclaredItem.{DeclaredItem}
use Rattle.crate_items.specs.declared.items.declared_variant.DeclaredVariant.{DeclaredVariant}
use Rattle.crate_tables.specs.CrateDefs as defs
use Rattle.crate_tables.specs.CrateMaps.{Filled}
use Rattle.crate_tables.specs.CrateTables.{Table, def_at, with_def_at, with_named}
use Rattle.crate_tables.specs.DefIndexes as indexes
use Rattle.crate_tables.specs.ModuleIndexes.{declared_by}
use Rattle.crate_tables.specs.NewModules.{CrateView}
use Rattle.crate_tables.specs.ProceduralPairs as pairs
use Rattle.crate_tables.specs.RawVisibilities as raws
use Rattle.crate_tables.specs.ScopeLists as scopes
use Rattle.crate_tables.specs.Visibilities.{AreIdsOf, Ids, id_at}
use Rattle.crate_tables.specs.declared.item_outline.ItemOutline.{ItemOutline}
use Rattle.crate_tables.specs.declared.item_place.DefPlace.{DefPlace}
use Rattle.crate_tables.specs.declared.scope_entry.ScopeEntry.TheVariants as entry
use Rattle.dm_base.specs.PerNs.{of_def}
use Rattle.dm_base.specs.declared.ids.Crate.{Crate}
use Rattle.dm_base.specs.declared.ids.EnumId.{EnumId}
use Rattle.dm_base.specs.declared.ids.FunctionId.{FunctionId}
use Rattle.dm_base.specs.declared.ids.ModuleId.{ModuleId}
use Rattle.dm_base.specs.declared.item_ids.AdtId.TheVariants as adt
use Rattle.dm_base.specs.declared.item_ids.ItemKind.{ItemKind as Kind}
use Rattle.dm_base.specs.declared.item_ids.ItemKind.TheVariants as kind
use Rattle.dm_base.specs.declared.item_ids.MacroId.{MacroId}
use Rattle.dm_base.specs.declared.item_ids.MacroId.TheVariants as which
use Rattle.dm_base.specs.declared.item_ids.ModuleDefId.{ModuleDefId}
use Rattle.dm_base.specs.declared.item_ids.ModuleDefId.TheVariants as def
use Rattle.dm_base.specs.declared.item_ids.VariantId.TheVariants as variant
use Rattle.dm_base.specs.declared.visibility.Visibility.{Visibility}
use Rattle.dm_def_map.specs.declared.crate_data.crate_setting.CrateSetting.{CrateSetting}
use Rattle.dm_maps.specs.Build.{item_def, with_item}
use Rattle.dm_maps.specs.BuildItems.{next_variant, with_variant}
use Rattle.dm_maps.specs.Holding.{def_holds}
use Rattle.dm_maps.specs.ItemFaults.{has_variant}
use Rattle.dm_maps.specs.Known.{KnowsAll}
use Rattle.dm_maps.specs.TablesHold.{raw_holds}
use Rattle.dm_maps.specs.World.{World}
use Rattle.dm_maps.specs.declared.check.held.HeldId.{HeldId}
use Rattle.dm_maps.specs.declared.check.held.HeldId.TheVariants as held

-- ---- Variants

abbrev AreFree : World → List DeclaredVariant → Type 0
AreFree w vs = AllByRecursion (IsFreeVariant (Known w)) vs

free-on : (w v : World) → Goes w v → (vs : List DeclaredVariant) → AreFree w vs → AreFree v vs
free-on w v goes vs free = all-weaker (IsFreeVariant (Known w)) (IsFreeVariant (Known v)) (λ x. all-wider w v goes (flat_map raw_holds x.fields)) vs free

goes-variant_of : (w : World) (e : EnumId) (v : DeclaredVariant) → IsFit w → IsFreeVariant (Known w) v → Goes w (defs.with_variant_of w e v)
goes-variant_of w e v is free = by (has_variant w e v.name)
  where
    by : (b : Bool) → Goes w (cond b w (defs.with_new_variant w e v))
    by true = goes-same w is
    by false =
        let u = with_variant w e v.name v.shape in
        let one = goes-variant w e v.name v.shape is in
        goes-further w u (defs.with_new_variant w e v) one
        (goes-fields u one.fit (variant.EnumVariantId (next_variant w)) v.fields (new-variant w e v.name v.shape) (all-wider w u one (flat_map raw_holds v.fields) free))

goes-variants : (w : World) (e : EnumId) (vs : List DeclaredVariant) → IsFit w → AreFree w vs → Goes w (defs.with_variants w e vs)
goes-variants w e [] is free = goes-same w is
goes-variants w e (v ∷ vs) is free =
    let u = defs.with_variant_of w e v in
    let one = goes-variant_of w e v is free.0 in
    goes-further w u (defs.with_variants u e vs) one (goes-variants u e vs one.fit (free-on w u one vs free.1))

goes-variants_of : (w : World) (d : ModuleDefId) (vs : List DeclaredVariant) → IsFit w → AreFree w vs → Goes w (defs.with_variants_of w d vs)
goes-variants_of w (def.AdtId (adt.EnumId e)) vs is free = goes-variants w e vs is free
goes-variants_of w _ vs is free = goes-same w is

-- ---- Definitions

item-holds : (k : Kind) (n : ℕ) → def_holds (item_def k n) ≡ held.Item k n ∷ []
item-holds kind.Function n = refl
item-holds kind.Struct n = refl
item-holds kind.Union n = refl
item-holds kind.Enum n = refl
item-holds kind.Const n = refl
item-holds kind.Static n = refl
item-holds kind.Trait n = refl
item-holds kind.TypeAlias n = refl

pub new-def : (w : World) (k : Kind) (m : ModuleId) → KnowsAll (with_item w k m) (def_holds (item_def k (length w.items)))
new-def w k m = subst (KnowsAll (with_item w k m)) (sym (item-holds k (length w.items))) (new-item w k m, tt)

module _ (c : CrateView) where
  defined-fills : (s : Filled) (x : DeclaredItem) (m : ModuleId) (v e : Visibility) (k : Kind) (vs : List DeclaredVariant) → IsFit s.world → IsFitTable s.world s.table → AreFree s.world vs
      → Fills s.world (defs.defined s x m v e k vs).world (defs.defined s x m v e k vs).table
  defined-fills s x m v e k vs is table free =
      let d = item_def k (length s.world.items) in
      let u = with_item s.world k m in
      let one = goes-item s.world k m is in
      let next = defs.with_variants_of u d vs in
      let two = goes-variants_of u d vs one.fit (free-on s.world u one vs free) in
      let goes = goes-further s.world u next one two in
      let items = of_def d v (defs.constructor_vis x.shape e) None in
      record {
        goes = goes;
        table = def-fits next (with_named s.table m x.name items) (def_at d m x) (named-fits next s.table m x.name items (table-on s.world next s.table goes table))
            (all-wider u next two (def_holds d) (new-def s.world k m));
      }

  declared-fills : (s : Filled) (x : DeclaredItem) (o : Option ModuleId) → IsFit s.world → IsFitTable s.world s.table
      → Fills s.world (defs.added_if c s x o).world (defs.added_if c s x o).table
  declared-fills s x None is table = fills-same s.world s.table is table
  declared-fills s x (Some m) is table = by (defs.def_kind x.kind)
    where
      v : Visibility
      v = defs.visibility_in c s.table x m

      e : Visibility
      e = defs.constructor_in c s.table x m

      vs : List DeclaredVariant
      vs = declared_variants c.options c.list c.files x

      by : (k : Option Kind) → Fills s.world (defs.defined_if s x m v e k vs).world (defs.defined_if s x m v e k vs).table
      by None = fills-same s.world s.table is table
      by (Some k) = defined-fills s x m v e k vs is table (variants-free (Known s.world) c.options c.list c.files x)

  items-fill : (s : Filled) (xs : List DeclaredItem) → IsFit s.world → IsFitTable s.world s.table → Fills s.world (defs.with_items c s xs).world (defs.with_items c s xs).table
  items-fill s [] is table = fills-same s.world s.table is table
  items-fill s (x ∷ xs) is table =
      let next = defs.with_declared c s x in
      let one = declared-fills s x (id_at s.table.ids x.«module») is table in
      fills-further s.world next.world (defs.with_items c next xs).world (defs.with_items c next xs).table one.goes (items-fill next xs one.goes.fit one.table)

  -- ---- Visibilities as they are written

  goes-raw : (w : World) (p : DefPlace) (d : ModuleDefId) → IsFit w → KnowsAll w (def_holds d) → Goes w (raws.with_raw_as c w p d)
  goes-raw w p (def.AdtId (adt.StructId n)) is k = goes-fields w is (variant.StructId n) (field_visibilities c.options c.list c.files p.file p.item) k.0 (fields-free (Known w) c.options c.list c.files p.file p.item)
  goes-raw w p (def.AdtId (adt.UnionId n)) is k = goes-fields w is (variant.UnionId n) (field_visibilities c.options c.list c.files p.file p.item) k.0 (fields-free (Known w) c.options c.list c.files p.file p.item)
  goes-raw w p (def.TraitId n) is k = goes-trait w is n (item_visibility c.list c.files p.file p.item) k.0 (visibility-free (Known w) c.list c.files p.file p.item)
  goes-raw w p _ is k = goes-same w is

  goes-raws : (w : World) (ps : List DefPlace) → IsFit w → AllByRecursion (IsKnownDef w) ps → Goes w (raws.with_raw_visibilities c w ps)
  goes-raws w [] is k = goes-same w is
  goes-raws w (p ∷ ps) is k =
      let v = raws.with_raw_as c w p p.def in
      let one = goes-raw w p p.def is k.0 in
      goes-further w v (raws.with_raw_visibilities c v ps) one
      (goes-raws v ps one.fit (all-weaker (IsKnownDef w) (IsKnownDef v) (λ q. all-wider w v one (def_holds q.def)) ps k.1))

  pub written-fill : (s : Filled) (xs : List DeclaredItem) → IsFit s.world → IsFitTable s.world s.table
      → Fills s.world (raws.with_written_items c s xs).world (raws.with_written_items c s xs).table
  written-fill s xs is table =
      let next = defs.with_items c s xs in
      let one = items-fill s xs is table in
      let two = goes-raws next.world next.table.defs one.goes.fit one.table.defs in
      let last = raws.with_raw_visibilities c next.world next.table.defs in
      record { goes = goes-further s.world next.world last one.goes two; table = table-on next.world last next.table two one.table }

-- ---- Lists of scopes

abbrev IsKnownIf : World → Option ModuleDefId → Type 0
IsKnownIf w None = Unit {0}
IsKnownIf w (Some d) = KnowsAll w (def_holds d)

def_at-known : (w : World) (b : Bool) (ps : List DefPlace) (k : indexes.Key) → AllByRecursion (IsKnownDef w) ps → IsKnownIf w (indexes.def_at b ps k)
def_at-known w b [] k h = tt
def_at-known w b (p ∷ ps) k h = by (indexes.is_at b k p) (def_at-known w b ps k h.1)
  where
    by : (t : Bool) → IsKnownIf w (indexes.def_at b ps k) → IsKnownIf w (cond t (Some p.def) (indexes.def_at b ps k))
    by true rest = h.0
    by false rest = rest

module_at-known : (w : World) (ids : Ids) (o : Option ℕ) → AreIdsOf w ids → IsKnownIf w (scopes.module_at ids o)
module_at-known w ids None are = tt
module_at-known w ids (Some n) are = by (id_at ids n) refl
  where
    by : (o : Option ModuleId) → id_at ids n ≡ o → IsKnownIf w (scopes.as_module o)
    by None e = tt
    by (Some m) e = (are n m e, tt)

def_of-known : (w : World) (ms : List Module) (t : Table) (x : ItemOutline) (m : ModuleId) → IsFitTable w t → IsKnownIf w (scopes.def_of ms t x m)
def_of-known w ms t x m is = by (scopes.is_mod x.kind)
  where
    by : (b : Bool) → IsKnownIf w (cond b (scopes.module_at t.ids (declared_by ms x)) (indexes.def_at false t.defs (indexes.key_at m x.file x.item)))
    by true = module_at-known w t.ids (declared_by ms x) is.ids
    by false = def_at-known w false t.defs (indexes.key_at m x.file x.item) is.defs

goes-unnamed : (w : World) (m : ModuleId) (d : ModuleDefId) → IsFit w → KnowsAll w (def_holds d) → Goes w (scopes.unnamed w m d)
goes-unnamed w m (def.ConstId k) is known = goes-entry w m (entry.UnnamedConst k) is known
goes-unnamed w m _ is known = goes-same w is

goes-listed_if : (w : World) (m : ModuleId) (b : Bool) (o : Option ModuleDefId) → IsFit w → IsKnownIf w o → Goes w (scopes.listed_if w m b o)
goes-listed_if w m b None is known = goes-same w is
goes-listed_if w m true (Some d) is known = goes-entry w m (entry.Declaration d) is known
goes-listed_if w m false (Some d) is known = goes-unnamed w m d is known

goes-macro_if : (w : World) (m : ModuleId) (o : Option ModuleDefId) → IsFit w → IsKnownIf w o → Goes w (scopes.with_macro w m o)
goes-macro_if w m None is known = goes-same w is
goes-macro_if w m (Some d) is known = goes-entry w m (entry.Declaration d) is known

goes-listed : (ms : List Module) (t : Table) (w : World) (x : ItemOutline) (o : Option ModuleId) → IsFit w → IsFitTable w t → Goes w (scopes.with_listed ms t w x o)
goes-listed ms t w x None is table = goes-same w is
goes-listed ms t w x (Some m) is table =
    let found = indexes.def_at true t.defs (indexes.key_at m x.file x.item) in
    let v = scopes.with_macro w m found in
    let one = goes-macro_if w m found is (def_at-known w true t.defs (indexes.key_at m x.file x.item) table.defs) in
    let listed = scopes.def_of ms t x m in
    goes-further w v (scopes.listed_if v m x.is_named listed) one (goes-listed_if v m x.is_named listed one.fit (def_of-known v ms t x m (table-on w v t one table)))

pub goes-lists : (ms : List Module) (t : Table) (w : World) (xs : List ItemOutline) → IsFit w → IsFitTable w t → Goes w (scopes.with_scope_lists ms t w xs)
goes-lists ms t w [] is table = goes-same w is
goes-lists ms t w (x ∷ xs) is table =
    let v = scopes.with_listed ms t w x (id_at t.ids x.home) in
    let one = goes-listed ms t w x (id_at t.ids x.home) is table in
    goes-further w v (scopes.with_scope_lists ms t v xs) one (goes-lists ms t v xs one.fit (table-on w v t one table))

-- ---- Procedural macros and their functions

abbrev AreKnownSettings : World → List CrateSetting → Type 0
AreKnownSettings w ss = AllByRecursion (λ s. KnowsAll w (setting_holds s)) ss

macro-known : (w : World) (m : MacroId) (f : FunctionId) → KnowsAll w (def_holds (def.MacroId m)) → KnowsAll w (def_holds (def.FunctionId f)) → AreKnownSettings w (pairs.macro_and_function m f)
macro-known w (which.ProcMacroId p) f km kf = ((kf.0, (km.0, tt)), tt)
macro-known w _ f km kf = tt

defs-known : (w : World) (d e : ModuleDefId) → KnowsAll w (def_holds d) → KnowsAll w (def_holds e) → AreKnownSettings w (pairs.of_defs d e)
defs-known w (def.MacroId m) (def.FunctionId f) kd ke = macro-known w m f kd ke
defs-known w _ _ kd ke = tt

both-known : (w : World) (d : ModuleDefId) (o : Option ModuleDefId) → KnowsAll w (def_holds d) → IsKnownIf w o → AreKnownSettings w (pairs.of_both d o)
both-known w d None kd ko = tt
both-known w d (Some e) kd ko = defs-known w d e kd ko

pairs-known : (w : World) (ps qs : List DefPlace) → AllByRecursion (IsKnownDef w) ps → AllByRecursion (IsKnownDef w) qs → AreKnownSettings w (flat_map (pairs.pair_of ps) qs)
pairs-known w ps [] kp kq = tt
pairs-known w ps (q ∷ qs) kp kq =
    all-append (λ s. KnowsAll w (setting_holds s)) (pairs.pair_of ps q) (flat_map (pairs.pair_of ps) qs)
    (both-known w q.def (indexes.def_at false ps (indexes.key_of q)) kq.0 (def_at-known w false ps (indexes.key_of q) kp)) (pairs-known w ps qs kp kq.1)

pub goes-pairs : (k : Crate) (t : Table) (w : World) → IsFit w → IsFitTable w t → Goes w (pairs.with_pairs k t w)
goes-pairs k t w is table = goes-settings w k (flat_map (pairs.pair_of t.defs) t.defs) is (pairs-known w t.defs t.defs table.defs table.defs)
