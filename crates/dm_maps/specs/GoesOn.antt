-- What a checked world's calls change beside pushes of names, and which ids they take.
use Rattle.std.specs.Prelude.{◌≡◌, false, IsTrue, List, [], ◌∷◌, ◌++◌, Option, Some, None, if◌then◌else◌, slice_get}
use Rattle.std.specs.Borrow.{Bor}
use Rattle.std.specs.List.{AllByRecursion}
use Rattle.dm_base.specs.declared.fields_shape.FieldsShape.{FieldsShape}
use Rattle.dm_base.specs.declared.ids.EnumId.{EnumId}
use Rattle.dm_base.specs.declared.ids.EnumVariantId.{EnumVariantId}
use Rattle.dm_base.specs.declared.ids.ModuleId.{ModuleId}
use Rattle.dm_base.specs.declared.ids.TraitId.{TraitId}
use Rattle.dm_base.specs.declared.imports.ImportId.{ImportId}
use Rattle.dm_base.specs.declared.item_ids.ItemKind.TheVariants as item
use Rattle.dm_base.specs.Names.{Name}
use Rattle.dm_base.specs.declared.visibility.Visibility.{Visibility}
use Rattle.dm_scope.specs.Changes.{with_vis}
use Rattle.dm_scope.specs.Scope.{Scope}
use Rattle.dm_maps.specs.declared.check.held.HeldId.{HeldId}
use Rattle.dm_maps.specs.declared.check.held.HeldId.TheVariants as held
use Rattle.dm_maps.specs.ScopeHolds.{unnamed_trait_holds}
use Rattle.dm_def_map.specs.Variants.{Variants}
use Rattle.dm_maps.specs.Added.{IsScoped}
use Rattle.dm_maps.specs.Cut.{among, cut}
use Rattle.dm_maps.specs.Known.{knows}
use Rattle.dm_maps.specs.Readings.{variants_of}
use Rattle.dm_maps.specs.World.{World, scope_of, with_scope}

-- what a world has under other names than n is as before
abbrev pub StaysBeside : World → World → Name → Type 0
StaysBeside w v n = (N : List Name) → among N n ≡ false → cut v N ≡ cut w N

-- ---- A trait that is imported without a name.

-- it goes last in the scope's list
abbrev pub and_trait : Scope → TraitId → Visibility → Option ImportId → Scope
and_trait s t v i = record s { unnamed_traits = s.unnamed_traits ++ (t, v, i) ∷ [] }

abbrev pub with_unnamed_trait : World → ModuleId → TraitId → Visibility → Option ImportId → World
with_unnamed_trait w m t v i = with_scope w m (and_trait (scope_of w m) t v i)

-- the module's scope has the trait more, what was known is known, and each other scope is as before
abbrev pub HasTraitMore : World → World → ModuleId → TraitId → Visibility → Option ImportId → Type 0
HasTraitMore w u m t v i = IsScoped w u m (and_trait (scope_of w m) t v i)

-- such an import holds the module that it goes to, the trait, its visibility and its use
abbrev pub trait_import_holds : ModuleId → TraitId → Visibility → Option ImportId → List HeldId
trait_import_holds m t v i = held.Module m ∷ unnamed_trait_holds (t, v, i)

-- ---- Another visibility of what a scope binds, in one namespace: definition, import and records stay.

abbrev pub seen_type : Scope → Name → Visibility → Scope
seen_type s n v = record s { types = with_vis n v s.types }

abbrev pub seen_value : Scope → Name → Visibility → Scope
seen_value s n v = record s { values = with_vis n v s.values }

abbrev pub seen_macro : Scope → Name → Visibility → Scope
seen_macro s n v = record s { macros = with_vis n v s.macros }

abbrev pub with_type_seen : World → ModuleId → Name → Visibility → World
with_type_seen w m n v = with_scope w m (seen_type (scope_of w m) n v)

abbrev pub with_value_seen : World → ModuleId → Name → Visibility → World
with_value_seen w m n v = with_scope w m (seen_value (scope_of w m) n v)

abbrev pub with_macro_seen : World → ModuleId → Name → Visibility → World
with_macro_seen w m n v = with_scope w m (seen_macro (scope_of w m) n v)

-- ---- The variants of an enum.

-- those of what is an enum of the world's, which may be none; of anything else not even none
abbrev pub variants_if_known : World → EnumId → Option Variants
variants_if_known w e = if knows w (held.Item item.Enum e.0) then Some (variants_of w e) else None

-- each of them is the world's, and one of that enum
abbrev pub AreKnown : World → Variants → Type 0
AreKnown w vs = AllByRecursion (λ v. IsTrue (knows w (held.Variant v.1.0))) vs

abbrev pub AreVariantsOf : World → EnumId → Variants → Type 0
AreVariantsOf w e vs = AllByRecursion (λ v. slice_get w.variants v.1.0.0 ≡ Some e) vs

-- an entry behind a reference
abbrev pub deref_variant : Bor Name × (EnumVariantId × FieldsShape) → Name × (EnumVariantId × FieldsShape)
deref_variant p = (p.0.now, p.1)
