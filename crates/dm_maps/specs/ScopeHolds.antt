-- Which ids preludes and scopes hold. Impl blocks, extern blocks, extern crates, builtin derives, macro calls and
-- places in source text are opaque: they hold none.
use Rattle.std.specs.Prelude.{List, [], ◌∷◌, ◌++◌, Option, map}
use Rattle.std.specs.List.{flat_map}
use Rattle.std.specs.Option.{option_map_or}
use Rattle.dm_base.specs.declared.ids.ModuleId.{ModuleId}
use Rattle.dm_base.specs.declared.ids.UseId.{UseId}
use Rattle.dm_base.specs.declared.ids.TraitId.{TraitId}
use Rattle.dm_base.specs.declared.ids.ConstId.{ConstId}
use Rattle.dm_base.specs.declared.item_ids.ItemKind.TheVariants as item
use Rattle.dm_base.specs.declared.item_ids.ModuleDefId.{ModuleDefId}
use Rattle.dm_base.specs.declared.item_ids.MacroId.{MacroId}
use Rattle.dm_base.specs.declared.imports.ImportId.{ImportId}
use Rattle.dm_base.specs.declared.imports.ImportOrExternCrate.{ImportOrExternCrate}
use Rattle.dm_base.specs.declared.imports.ImportOrGlob.{ImportOrGlob}
use Rattle.dm_base.specs.declared.imports.ImportOrDef.{ImportOrDef}
use Rattle.dm_base.specs.declared.imports.ImportOrDef.TheVariants as step
use Rattle.dm_base.specs.declared.per_ns.Item.{Item}
use Rattle.dm_base.specs.declared.visibility.Visibility.{Visibility}
use Rattle.dm_base.specs.Names.{Name}
use Rattle.dm_scope.specs.Scope.{Scope}
use Rattle.dm_maps.specs.declared.check.held.HeldId.{HeldId}
use Rattle.dm_maps.specs.declared.check.held.HeldId.TheVariants as held
use Rattle.dm_maps.specs.Holding.{def_holds, vis_holds, import_holds, value_import_holds, type_holds, value_holds, macro_holds}

-- a map's prelude holds its module, and the use that named it
abbrev pub prelude_holds : ModuleId × Option UseId → List HeldId
prelude_holds p = held.Module p.0 ∷ option_map_or (λ u. held.Use u ∷ []) p.1 []

abbrev pub macro_uses_hold : {X : Type 0} → List (Name × (MacroId × X)) → List HeldId
macro_uses_hold es = map (λ e. held.Macro e.0) (map (λ e. e.1) es)

-- what an import stands for holds the use of a further import, or the definition
abbrev pub step_holds : ImportOrDef → List HeldId
step_holds (step.Import i) = held.Use i.use_ ∷ []
step_holds (step.Glob i) = held.Use i.use_ ∷ []
step_holds (step.ExternCrate k) = []
step_holds (step.Def d) = def_holds d

-- the bindings of a namespace hold what their items do
abbrev pub types_hold : List (Name × Item ModuleDefId ImportOrExternCrate) → List HeldId
types_hold es = flat_map type_holds (map (λ e. e.1) es)

abbrev pub values_hold : List (Name × Item ModuleDefId ImportOrGlob) → List HeldId
values_hold es = flat_map value_holds (map (λ e. e.1) es)

abbrev pub macros_hold : List (Name × Item MacroId ImportOrExternCrate) → List HeldId
macros_hold es = flat_map macro_holds (map (λ e. e.1) es)

-- and its records, keys and values
abbrev pub record_holds : ImportOrExternCrate × ImportOrDef → List HeldId
record_holds e = import_holds e.0 ++ step_holds e.1

abbrev pub value_record_holds : ImportOrGlob × ImportOrDef → List HeldId
value_record_holds e = value_import_holds e.0 ++ step_holds e.1

abbrev pub legacies_hold : List (Name × List MacroId) → List HeldId
legacies_hold es = flat_map (map held.Macro) (map (λ e. e.1) es)

-- a trait that was imported without a name holds itself, its visibility and its use
abbrev pub unnamed_trait_holds : TraitId × Visibility × Option ImportId → List HeldId
unnamed_trait_holds t = (held.Item item.Trait t.0.0 ∷ []) ++ vis_holds t.1 ++ option_map_or (λ (i : ImportId). held.Use i.use_ ∷ []) t.2 []

abbrev pub unnamed_const_holds : ConstId → HeldId
unnamed_const_holds c = held.Item item.Const c.0

abbrev pub bindings_hold : Scope → List HeldId
bindings_hold s = types_hold s.types.items ++ (values_hold s.values.items ++ macros_hold s.macros.items)

abbrev pub records_hold : Scope → List HeldId
records_hold s = flat_map record_holds s.types.records ++ (flat_map value_record_holds s.values.records ++ flat_map record_holds s.macros.records)

-- the lists of a scope hold what it declares, and what it imports or declares without a name
abbrev pub lists_hold : Scope → List HeldId
lists_hold s = flat_map def_holds s.declarations ++ (flat_map unnamed_trait_holds s.unnamed_traits ++ map unnamed_const_holds s.unnamed_consts)

-- what a scope holds
abbrev pub scope_holds : Scope → List HeldId
scope_holds s = bindings_hold s ++ (records_hold s ++ (legacies_hold s.legacy_macros ++ lists_hold s))
