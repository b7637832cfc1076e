-- What a name resolves to in each namespace: how such a set of items is made, read, filtered and listed, how it shadows
-- another, and when an item's import resolves to another definition.
use Rattle.std.specs.Prelude.{◌≡◌, ℕ, ◌+◌, Bool, false, ◌&&◌, not, List, [], ◌∷◌, Option, Some, None, is_some, is_none, option_and_then, option_map, if◌then◌else◌}
use Rattle.std.specs.Option.{option_or}
use Rattle.dm_base.specs.declared.per_ns.Item.{Item}
use Rattle.dm_base.specs.declared.per_ns.PerNs.{PerNs}
use Rattle.dm_base.specs.declared.visibility.Visibility.{Visibility}
use Rattle.dm_base.specs.declared.item_ids.AdtId.{AdtId}
use Rattle.dm_base.specs.declared.item_ids.AdtId.TheVariants as adts
use Rattle.dm_base.specs.declared.item_ids.ModuleDefId.{ModuleDefId}
use Rattle.dm_base.specs.declared.item_ids.ModuleDefId.TheVariants as defs
use Rattle.dm_base.specs.declared.item_ids.MacroId.{MacroId}
use Rattle.dm_base.specs.declared.item_in_ns.ItemInNs.{ItemInNs}
use Rattle.dm_base.specs.declared.item_in_ns.ItemInNs.TheVariants.{Types, Values, Macros}
use Rattle.dm_base.specs.declared.imports.ImportOrExternCrate.{ImportOrExternCrate}
use Rattle.dm_base.specs.declared.imports.ImportOrGlob.{ImportOrGlob}
use Rattle.dm_base.specs.Imports.{narrowed, widened}

-- nothing in any namespace
abbrev pub nothing : PerNs
nothing = record { types = None; values = None; macros = None }

-- in each namespace the first item that is there
abbrev pub over : PerNs → PerNs → PerNs
over a b = record { types = option_or a.types b.types; values = option_or a.values b.values; macros = option_or a.macros b.macros }

abbrev pub overlay : List PerNs → PerNs
overlay [] = nothing
overlay (x ∷ xs) = over x (overlay xs)

-- what is there and passes a test
abbrev pub keep : {A : Type 0} → (A → Bool) → Option A → Option A
keep p None = None
keep p (Some x) = if p x then Some x else None

-- each item kept where its visibility passes
abbrev pub seen_by : (Visibility → Bool) → PerNs → PerNs
seen_by p x = record { types = keep (λ i. p i.vis) x.types; values = keep (λ i. p i.vis) x.values; macros = keep (λ i. p i.vis) x.macros }

abbrev pub type_alone : ModuleDefId → Visibility → Option ImportOrExternCrate → PerNs
type_alone d v i = record { types = Some (record { def = d; vis = v; import = i }); values = None; macros = None }

abbrev pub value_alone : ModuleDefId → Visibility → Option ImportOrGlob → PerNs
value_alone d v i = record { types = None; values = Some (record { def = d; vis = v; import = i }); macros = None }

abbrev pub macro_alone : MacroId → Visibility → Option ImportOrExternCrate → PerNs
macro_alone d v i = record { types = None; values = None; macros = Some (record { def = d; vis = v; import = i }) }

-- a value's import is the import, narrowed
abbrev pub value_import : Option ImportOrExternCrate → Option ImportOrGlob
value_import i = option_and_then narrowed i

-- a type and a value, of one import
abbrev pub type_and_value : ModuleDefId → Visibility → ModuleDefId → Visibility → Option ImportOrExternCrate → PerNs
type_and_value d v e w i = record {
  types = Some (record { def = d; vis = v; import = i });
  values = Some (record { def = e; vis = w; import = value_import i });
  macros = None;
}

-- a definition that is a type, and also a value where its constructor has a visibility
abbrev pub constructed : ModuleDefId → Visibility → Option Visibility → Option ImportOrExternCrate → PerNs
constructed d v None i = type_alone d v i
constructed d v (Some w) i = type_and_value d v d w i

abbrev pub of_adt : AdtId → ModuleDefId → Visibility → Option Visibility → Option ImportOrExternCrate → PerNs
of_adt (adts.StructId s) d v c i = constructed d v c i
of_adt (adts.UnionId u) d v c i = type_alone d v i
of_adt (adts.EnumId e) d v c i = type_alone d v i

-- the namespaces of a definition, seen by v, whose constructor is seen by c if it has one
abbrev pub of_def : ModuleDefId → Visibility → Option Visibility → Option ImportOrExternCrate → PerNs
of_def (defs.ModuleId m) v c i = type_alone (defs.ModuleId m) v i
of_def (defs.FunctionId f) v c i = value_alone (defs.FunctionId f) v (value_import i)
of_def (defs.AdtId a) v c i = of_adt a (defs.AdtId a) v c i
of_def (defs.EnumVariantId e) v c i = constructed (defs.EnumVariantId e) v c i
of_def (defs.ConstId k) v c i = value_alone (defs.ConstId k) v (value_import i)
of_def (defs.StaticId s) v c i = value_alone (defs.StaticId s) v (value_import i)
of_def (defs.TraitId t) v c i = type_alone (defs.TraitId t) v i
of_def (defs.TypeAliasId t) v c i = type_alone (defs.TypeAliasId t) v i
of_def (defs.BuiltinType b) v c i = type_alone (defs.BuiltinType b) v i
of_def (defs.MacroId m) v c i = macro_alone m v i

abbrev pub is_empty : PerNs → Bool
is_empty n = is_none n.types && is_none n.values && is_none n.macros

abbrev pub is_full : PerNs → Bool
is_full n = is_some n.types && is_some n.values && is_some n.macros

abbrev pub definition : {D I : Type 0} → Option (Item D I) → Option D
definition o = option_map (λ i. i.def) o

abbrev pub seen_as_item : {D I : Type 0} → Visibility → Option (Item D I) → Option (Item D I)
seen_as_item v None = None
seen_as_item v (Some i) = Some (record i { vis = v })

-- the same items, of visibility v
abbrev pub seen_as : Visibility → PerNs → PerNs
seen_as v n = record { types = seen_as_item v n.types; values = seen_as_item v n.values; macros = seen_as_item v n.macros }

-- 1 where there is a type, 2 where there is a value, 4 where there is a macro, and their sums
abbrev pub availability : PerNs → ℕ
availability n = (if is_some n.types then 1 else 0) + (if is_some n.values then 2 else 0) + (if is_some n.macros then 4 else 0)

-- the closure is called for an item, if there is one: `step` is one call of it, from its state f to g
abbrev pub AsksItem : {F D I : Type 0} → (F → Visibility → Bool → F → Type 0) → Option (Item D I) → F → Option (Item D I) → F → Type 0
AsksItem step None f r g = (r ≡ None) × (g ≡ f)
AsksItem step (Some x) f r g = (b : Bool) × step f x.vis b g × (r ≡ (if b then Some x else None))

-- the closure may be called for an item, if there is one
abbrev pub MayAskItem : {F D I : Type 0} → (F → Visibility → Type 0) → Option (Item D I) → F → Type 0
MayAskItem may None f = Unit {0}
MayAskItem may (Some x) f = may f x.vis

-- The closure f may be called for the type, then for the value, then for the macro, each time in the state that the
-- calls before left it in.
pub record MayAskInOrder {F : Type 0} (may : F → Visibility → Type 0) (step : F → Visibility → Bool → F → Type 0) (n : PerNs) (f : F) : Type 0 where
  pub of_type : MayAskItem may n.types f
  pub of_value : (t : Option (Item ModuleDefId ImportOrExternCrate)) (g : F) → AsksItem step n.types f t g → MayAskItem may n.values g
  pub of_macro : (t : Option (Item ModuleDefId ImportOrExternCrate)) (g : F) → AsksItem step n.types f t g → (v : Option (Item ModuleDefId ImportOrGlob)) (h : F) → AsksItem step n.values g v h → MayAskItem may n.macros h

-- the closure is called for the type, the value and the macro in that order, and those stay that pass
abbrev pub AsksInOrder : {F : Type 0} → (F → Visibility → Bool → F → Type 0) → PerNs → F → PerNs → Type 0
AsksInOrder {F} step n f r =
    (g : F) × (h : F) × (k : F) × AsksItem step n.types f r.types g × AsksItem step n.values g r.values h × AsksItem step n.macros h r.macros k

-- an item in its namespace, with the import that brought it
abbrev pub Listed : Type 0
Listed = ItemInNs × Option ImportOrExternCrate

-- an item before others, if there is one
abbrev pub type_before : Option (Item ModuleDefId ImportOrExternCrate) → List Listed → List Listed
type_before None rest = rest
type_before (Some i) rest = (Types i.def, i.import) ∷ rest

abbrev pub value_before : Option (Item ModuleDefId ImportOrGlob) → List Listed → List Listed
value_before None rest = rest
value_before (Some i) rest = (Values i.def, option_map widened i.import) ∷ rest

abbrev pub macro_before : Option (Item MacroId ImportOrExternCrate) → List Listed → List Listed
macro_before None rest = rest
macro_before (Some i) rest = (Macros i.def, i.import) ∷ rest

-- the type, the value and the macro, in that order
abbrev pub items_of : PerNs → List Listed
items_of n = type_before n.types (value_before n.values (macro_before n.macros []))

module _ {D I : Type 0} (same_import : I → I → Bool) (same_def : D → D → Bool) where
  -- an import is given, and it is the one that is there
  abbrev pub is_import_of : Option I → Option I → Bool
  is_import_of None j = false
  is_import_of (Some i) None = false
  is_import_of (Some i) (Some j) = same_import i j

  -- the item's import is given again, and resolves to another definition
  abbrev pub is_reresolved : Item D I → D → Option I → Bool
  is_reresolved item def import = is_import_of item.import import && not (same_def item.def def)
