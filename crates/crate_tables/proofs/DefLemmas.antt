-- Definitions that a table gets hold what is the builder's; and one item more.
use Rattle.std.proofs.Common.{◌≡◌, ◌++◌, ◌∷◌, [], Bool, true, false, cond, List, Option, Some, None, refl}
use Rattle.std.specs.Prelude.{IsTrue}
use Rattle.crate_items.specs.declared.items.declared_item.DeclaredItem.{DeclaredItem}
use Rattle.crate_items.specs.declared.items.declared_variant.DeclaredVariant.{DeclaredVariant}
use Rattle.crate_tables.proofs.TableLemmas.{table-named, table-on, type-known}
use Rattle.crate_tables.specs.CrateDefs.{constructor_vis, with_declared, with_items, with_variant_of, with_variants}
use Rattle.crate_tables.specs.CrateMaps.{Filled}
use Rattle.crate_tables.specs.CrateTables.{IsTableOf, Table, with_named}
use Rattle.crate_tables.specs.NewModules.{CrateView}
use Rattle.dm_base.specs.PerNs.{constructed, macro_alone, of_def, type_and_value, value_alone}
use Rattle.dm_base.specs.declared.visibility.Visibility.{Visibility}
use Rattle.dm_maps.specs.Holding.{def_holds, res_holds, vis_holds}
use Rattle.dm_maps.specs.declared.check.held.HeldId.TheVariants as held
use Rattle.dm_base.specs.Kinds.{has_constructor}
use Rattle.dm_base.specs.Names.{Name}
use Rattle.dm_base.specs.declared.fields_shape.FieldsShape.{FieldsShape}
use Rattle.dm_base.specs.declared.ids.Crate.{Crate}
use Rattle.dm_base.specs.declared.ids.EnumId.{EnumId}
use Rattle.dm_base.specs.declared.ids.ModuleId.{ModuleId}
use Rattle.dm_base.specs.declared.item_ids.AdtId.TheVariants as adt
use Rattle.dm_base.specs.declared.item_ids.MacroId.{MacroId}
use Rattle.dm_base.specs.declared.item_ids.ModuleDefId.{ModuleDefId}
use Rattle.dm_base.specs.declared.item_ids.ModuleDefId.TheVariants as def
use Rattle.dm_maps.specs.Added.{IsGrown}
use Rattle.dm_maps.specs.Known.{knows, KnowsAll}
use Rattle.dm_maps.specs.KnownLaws.{knows-append}
use Rattle.dm_maps.specs.World.{World}

value-known : (w : World) (d : ModuleDefId) (v : Visibility) → KnowsAll w (def_holds d) → KnowsAll w (vis_holds v) → KnowsAll w (res_holds (value_alone d v None))
value-known w d v kd kv =
    knows-append w _ [] (knows-append w (def_holds d ++ vis_holds v) [] (knows-append w (def_holds d) (vis_holds v) kd kv) tt) tt

both-known : (w : World) (d : ModuleDefId) (v c : Visibility)
    → KnowsAll w (def_holds d) → KnowsAll w (vis_holds v) → KnowsAll w (vis_holds c) → KnowsAll w (res_holds (type_and_value d v d c None))
both-known w d v c kd kv kc =
    let one = knows-append w (def_holds d ++ vis_holds v) [] (knows-append w (def_holds d) (vis_holds v) kd kv) tt in
    let two = knows-append w (def_holds d ++ vis_holds c) [] (knows-append w (def_holds d) (vis_holds c) kd kc) tt in
    knows-append w _ [] (knows-append w _ _ one two) tt

macro-known : (w : World) (m : MacroId) (v : Visibility) → IsTrue (knows w (held.Macro m)) → KnowsAll w (vis_holds v) → KnowsAll w (res_holds (macro_alone m v None))
macro-known w m v km kv = knows-append w ((held.Macro m ∷ []) ++ vis_holds v) [] (km, kv) tt

constructed-known : (w : World) (d : ModuleDefId) (v c : Visibility) (shape : FieldsShape)
    → KnowsAll w (def_holds d) → KnowsAll w (vis_holds v) → KnowsAll w (vis_holds c) → KnowsAll w (res_holds (constructed d v (constructor_vis shape c) None))
constructed-known w d v c shape kd kv kc = by (has_constructor shape)
  where
    by : (b : Bool) → KnowsAll w (res_holds (constructed d v (cond b (Some c) None) None))
    by true = both-known w d v c kd kv kc
    by false = type-known w d v kd kv

-- what a known definition is, seen by what is known, is known
pub def-known : (w : World) (d : ModuleDefId) (v c : Visibility) (shape : FieldsShape)
    → KnowsAll w (def_holds d) → KnowsAll w (vis_holds v) → KnowsAll w (vis_holds c) → KnowsAll w (res_holds (of_def d v (constructor_vis shape c) None))
def-known w (def.ModuleId m) v c s kd kv kc = type-known w (def.ModuleId m) v kd kv
def-known w (def.FunctionId n) v c s kd kv kc = value-known w (def.FunctionId n) v kd kv
def-known w (def.AdtId (adt.StructId n)) v c s kd kv kc = constructed-known w (def.AdtId (adt.StructId n)) v c s kd kv kc
def-known w (def.AdtId (adt.UnionId n)) v c s kd kv kc = type-known w (def.AdtId (adt.UnionId n)) v kd kv
def-known w (def.AdtId (adt.EnumId n)) v c s kd kv kc = type-known w (def.AdtId (adt.EnumId n)) v kd kv
def-known w (def.EnumVariantId e) v c s kd kv kc = constructed-known w (def.EnumVariantId e) v c s kd kv kc
def-known w (def.ConstId n) v c s kd kv kc = value-known w (def.ConstId n) v kd kv
def-known w (def.StaticId n) v c s kd kv kc = value-known w (def.StaticId n) v kd kv
def-known w (def.TraitId n) v c s kd kv kc = type-known w (def.TraitId n) v kd kv
def-known w (def.TypeAliasId n) v c s kd kv kc = type-known w (def.TypeAliasId n) v kd kv
def-known w (def.BuiltinType b) v c s kd kv kc = type-known w (def.BuiltinType b) v kd kv
def-known w (def.MacroId m) v c s kd kv kc = macro-known w m v kd.0 kv

-- a table with a definition more, under its name if it has one
pub table-defined : (v w : World) (k : Crate) (t : Table) (m : ModuleId) (n : Option Name) (d : ModuleDefId) (vis c : Visibility) (shape : FieldsShape)
    → IsGrown v w → IsTrue (knows v (held.Module m)) → KnowsAll w (def_holds d) → IsTableOf v k t → KnowsAll v (vis_holds vis) → KnowsAll v (vis_holds c)
    → IsTableOf w k (with_named t m n (of_def d vis (constructor_vis shape c) None))
table-defined v w k t m None d vis c shape grown km kd is kv kc = table-on v w k t grown is
table-defined v w k t m (Some n) d vis c shape grown km kd is kv kc =
    table-named w k t (record { home = m; name = n; items = of_def d vis (constructor_vis shape c) None }) (table-on v w k t grown is)
    (record { known = (grown.known (held.Module m) km, def-known w d vis c shape kd (grown.all (vis_holds vis) kv) (grown.all (vis_holds c) kc)) })

-- one variant more, and one item more
pub variants-more : (w : World) (e : EnumId) (xs : List DeclaredVariant) (x : DeclaredVariant) → with_variants w e (xs ++ x ∷ []) ≡ with_variant_of (with_variants w e xs) e x
variants-more w e [] x = refl
variants-more w e (y ∷ ys) x = variants-more (with_variant_of w e y) e ys x

pub items-more : (c : CrateView) (s : Filled) (xs : List DeclaredItem) (x : DeclaredItem) → with_items c s (xs ++ x ∷ []) ≡ with_declared c (with_items c s xs) x
items-more c s [] x = refl
items-more c s (y ∷ ys) x = items-more c (with_declared c s y) ys x
