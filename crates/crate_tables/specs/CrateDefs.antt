-- The definitions of a crate in a builder, with their variants.
use Rattle.std.specs.Prelude.{ℕ, Bool, true, false, List, [], ◌∷◌, Option, None, Some, length, slice_get, if◌then◌else◌}
use Rattle.crate_items.specs.Constructors.{constructor_visibility}
use Rattle.crate_items.specs.DeclaredItems.{written}
use Rattle.crate_items.specs.DeclaredVariants.{declared_variants}
use Rattle.crate_items.specs.declared.items.declared_item.DeclaredItem.{DeclaredItem}
use Rattle.crate_items.specs.declared.items.declared_variant.DeclaredVariant.{DeclaredVariant}
use Rattle.crate_items.specs.Modules.{Listing}
use Rattle.crate_items.specs.Sources.{Source, source_at}
use Rattle.crate_tables.specs.CrateMaps.{Filled}
use Rattle.crate_tables.specs.CrateTables.{Table, def_at, with_def_at, with_named}
use Rattle.crate_tables.specs.NewModules.{CrateView, is_macro_root}
use Rattle.crate_tables.specs.Visibilities.{id_at, visibility_of}
use Rattle.dm_base.specs.PerNs.{of_def}
use Rattle.dm_base.specs.declared.visibility.Visibility.{Visibility}
use Rattle.dm_base.specs.Kinds.{has_constructor}
use Rattle.dm_base.specs.declared.fields_shape.FieldsShape.{FieldsShape}
use Rattle.dm_base.specs.declared.ids.EnumId.{EnumId}
use Rattle.dm_base.specs.declared.ids.ModuleId.{ModuleId}
use Rattle.dm_base.specs.declared.item_ids.AdtId.TheVariants as adt
use Rattle.dm_base.specs.declared.item_ids.ItemKind.{ItemKind as Kind}
use Rattle.dm_base.specs.declared.item_ids.ItemKind.TheVariants as kind
use Rattle.dm_base.specs.declared.item_ids.ModuleDefId.{ModuleDefId}
use Rattle.dm_base.specs.declared.item_ids.ModuleDefId.TheVariants as def
use Rattle.dm_base.specs.declared.item_ids.VariantId.TheVariants.{EnumVariantId}
use Rattle.dm_maps.specs.Build.{item_def, with_item}
use Rattle.dm_maps.specs.BuildItems.{next_variant, with_variant}
use Rattle.dm_maps.specs.BuildTables.{with_fields}
use Rattle.dm_maps.specs.ItemFaults.{has_variant}
use Rattle.dm_maps.specs.World.{World}
use Rattle.item_tree.specs.declared.items.item_kind.ItemKind.{ItemKind}
use Rattle.item_tree.specs.declared.items.item_kind.ItemKind.TheVariants as item
use Rattle.item_tree.specs.declared.items.Item.{Item}
use Rattle.item_tree.specs.declared.items.visibility.RawVisibility.{RawVisibility}
use Rattle.item_tree.specs.declared.items.visibility.RawVisibility.TheVariants as raw

-- ---- What is written before an item

abbrev pub written_in : Source → Option Item → RawVisibility
written_in s None = raw.Inherited
written_in s (Some x) = written s.lexemes x

abbrev pub written_by : Option Source → ℕ → RawVisibility
written_by None n = raw.Inherited
written_by (Some s) n = written_in s (slice_get s.items n)

-- the visibility that is written before an item of a crate; none, where there is no such item
abbrev pub written_of : Listing → DeclaredItem → RawVisibility
written_of l x = written_by (source_at l.sources x.file) x.item

-- ---- Definitions

-- the items that a builder numbers
abbrev pub def_kind : ItemKind → Option Kind
def_kind item.Function = Some kind.Function
def_kind item.Struct = Some kind.Struct
def_kind item.Union = Some kind.Union
def_kind item.Enum = Some kind.Enum
def_kind item.Const = Some kind.Const
def_kind item.Static = Some kind.Static
def_kind item.Trait = Some kind.Trait
def_kind item.TypeAlias = Some kind.TypeAlias
def_kind _ = None

-- a variant is added to an enum, and the visibilities of its fields are set
abbrev pub with_new_variant : World → EnumId → DeclaredVariant → World
with_new_variant w e v = with_fields (with_variant w e v.name v.shape) (EnumVariantId (next_variant w)) v.fields

-- an enum gets its variants, of each name the first
abbrev pub with_variant_of : World → EnumId → DeclaredVariant → World
with_variant_of w e v = if has_variant w e v.name then w else with_new_variant w e v

abbrev pub with_variants : World → EnumId → List DeclaredVariant → World
with_variants w e [] = w
with_variants w e (v ∷ vs) = with_variants (with_variant_of w e v) e vs

abbrev pub with_variants_of : World → ModuleDefId → List DeclaredVariant → World
with_variants_of w (def.AdtId (adt.EnumId e)) vs = with_variants w e vs
with_variants_of w _ vs = w

-- the constructor of a struct, if it has one, is seen by v
abbrev pub constructor_vis : FieldsShape → Visibility → Option Visibility
constructor_vis shape v = if has_constructor shape then Some v else None

-- a definition d of that kind, seen by v, is added in the module m, with these variants, and declared under its name: a type,
-- a value, or a struct with a constructor, which is seen by c, as both
abbrev pub defined_as : Filled → DeclaredItem → ModuleId → Visibility → Visibility → Kind → ModuleDefId → List DeclaredVariant → Filled
defined_as s x m v c k d vs = record {
  world = with_variants_of (with_item s.world k m) d vs;
  table = with_def_at (with_named s.table m x.name (of_def d v (constructor_vis x.shape c) None)) (def_at d m x);
}

abbrev pub defined : Filled → DeclaredItem → ModuleId → Visibility → Visibility → Kind → List DeclaredVariant → Filled
defined s x m v c k vs = defined_as s x m v c k (item_def k (length s.world.items)) vs

-- what has no kind there is passed over
abbrev pub defined_if : Filled → DeclaredItem → ModuleId → Visibility → Visibility → Option Kind → List DeclaredVariant → Filled
defined_if s x m v c None vs = s
defined_if s x m v c (Some k) vs = defined s x m v c k vs

-- ---- Items

-- whom an item of the module m is shown to
abbrev pub visibility_in : CrateView → Table → DeclaredItem → ModuleId → Visibility
visibility_in c t x m =
    visibility_of (is_macro_root c x.«module») c.krate t.ids m (written_of c.list x) x.visibility

-- whom its constructor is shown to, if it has one: no more than those who see each of its fields
abbrev pub constructor_in : CrateView → Table → DeclaredItem → ModuleId → Visibility
constructor_in c t x m =
    let v = constructor_visibility c.options c.edition c.list c.files x in
    visibility_of (is_macro_root c x.«module») c.krate t.ids m v.written v.shown

abbrev pub added_in : CrateView → Filled → DeclaredItem → ModuleId → Filled
added_in c s x m =
    defined_if s x m (visibility_in c s.table x m) (constructor_in c s.table x m) (def_kind x.kind)
    (declared_variants c.options c.list c.files x)

-- an item of a module that was left out is, too
abbrev pub added_if : CrateView → Filled → DeclaredItem → Option ModuleId → Filled
added_if c s x None = s
added_if c s x (Some m) = added_in c s x m

abbrev pub with_declared : CrateView → Filled → DeclaredItem → Filled
with_declared c s x = added_if c s x (id_at s.table.ids x.«module»)

-- Each definition among the items is added, in order, in its module, with its variants and its name.
abbrev pub with_items : CrateView → Filled → List DeclaredItem → Filled
with_items c s [] = s
with_items c s (x ∷ xs) = with_items c (with_declared c s x) xs
