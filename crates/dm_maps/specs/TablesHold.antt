-- Which ids the tables of a crate, of the AST, and of items hold.
use Rattle.std.specs.Prelude.{List, [], ◌∷◌, ◌++◌, map}
use Rattle.std.specs.List.{flat_map}
use Rattle.dm_base.specs.declared.ids.FunctionId.{FunctionId}
use Rattle.dm_base.specs.declared.ids.ProcMacroId.{ProcMacroId}
use Rattle.dm_base.specs.declared.ids.TraitId.{TraitId}
use Rattle.dm_base.specs.declared.item_ids.AssocItemId.{AssocItemId}
use Rattle.dm_base.specs.declared.item_ids.AssocItemId.TheVariants as assoc
use Rattle.dm_base.specs.declared.item_ids.ItemContainerId.{ItemContainerId}
use Rattle.dm_base.specs.declared.item_ids.ItemContainerId.TheVariants as container
use Rattle.dm_base.specs.declared.item_ids.ItemKind.TheVariants as item
use Rattle.dm_base.specs.declared.item_ids.MacroId.{MacroId}
use Rattle.dm_base.specs.declared.item_ids.MacroId.TheVariants as which
use Rattle.dm_base.specs.declared.item_ids.VariantId.{VariantId}
use Rattle.dm_base.specs.declared.item_ids.VariantId.TheVariants as variant
use Rattle.dm_base.specs.declared.source.AstId.{AstId}
use Rattle.dm_base.specs.declared.visibility.RawVisibility.{RawVisibility}
use Rattle.dm_base.specs.declared.visibility.RawVisibility.TheVariants as raw
use Rattle.dm_scope.specs.declared.diagnostics.DefDiagnostic.{DefDiagnostic}
use Rattle.dm_scope.specs.declared.diagnostics.DefDiagnosticKind.{DefDiagnosticKind}
use Rattle.dm_scope.specs.declared.diagnostics.DefDiagnosticKind.TheVariants as wrong
use Rattle.dm_maps.specs.declared.check.held.HeldId.{HeldId}
use Rattle.dm_maps.specs.declared.check.held.HeldId.TheVariants as held
use Rattle.dm_def_map.specs.CrateData.{CrateData}
use Rattle.dm_def_map.specs.Helpers.{Helper}
use Rattle.dm_def_map.specs.ItemTables.{ItemTables}
use Rattle.dm_maps.specs.Holding.{path_holds}

-- the AST items that define macros hold those
abbrev pub macro_defs_hold : List (AstId × MacroId) → List HeldId
macro_defs_hold es = map held.Macro (map (λ e. e.1) es)

-- a derive helper holds its macro
abbrev pub helper_holds : Helper → HeldId
helper_holds h = held.Macro h.1

abbrev pub helpers_hold : List (AstId × List Helper) → List HeldId
helpers_hold es = flat_map (map helper_holds) (map (λ e. e.1) es)

-- what went wrong holds the crate of the `$crate` of the path that it is about, if it is about one
abbrev pub diagnostic_kind_holds : DefDiagnosticKind → List HeldId
diagnostic_kind_holds (wrong.UnresolvedMacroCall ast path) = path_holds path.kind
diagnostic_kind_holds (wrong.MacroError ast path err) = path_holds path.kind
diagnostic_kind_holds _ = []

-- and the module that it is in
abbrev pub diagnostic_holds : DefDiagnostic → List HeldId
diagnostic_holds d = held.Module d.in_module ∷ diagnostic_kind_holds d.kind

abbrev pub diagnostics_hold : List DefDiagnostic → List HeldId
diagnostics_hold ds = flat_map diagnostic_holds ds

-- both tables of procedural macros hold the function and the macro
abbrev pub macro_of_fn_holds : FunctionId × ProcMacroId → List HeldId
macro_of_fn_holds e = held.Item item.Function e.0.0 ∷ held.Macro (which.ProcMacroId e.1) ∷ []

abbrev pub fn_of_macro_holds : ProcMacroId × FunctionId → List HeldId
fn_of_macro_holds e = held.Macro (which.ProcMacroId e.0) ∷ held.Item item.Function e.1.0 ∷ []

abbrev pub data_holds : CrateData → List HeldId
data_holds d = flat_map macro_of_fn_holds d.macro_of_fn ++ flat_map fn_of_macro_holds d.fn_of_macro

-- a visibility as it is written holds the crate of its path's `$crate`
abbrev pub raw_holds : RawVisibility → List HeldId
raw_holds (raw.Module p e) = path_holds p.kind
raw_holds (raw.PubSelf e) = []
raw_holds raw.PubCrate = []
raw_holds raw.Public = []

abbrev pub variant_holds : VariantId → HeldId
variant_holds (variant.EnumVariantId v) = held.Variant v
variant_holds (variant.StructId n) = held.Item item.Struct n.0
variant_holds (variant.UnionId n) = held.Item item.Union n.0

abbrev pub field_list_holds : VariantId × List RawVisibility → List HeldId
field_list_holds e = (variant_holds e.0 ∷ []) ++ flat_map raw_holds e.1

abbrev pub assoc_id_holds : AssocItemId → HeldId
assoc_id_holds (assoc.FunctionId n) = held.Item item.Function n.0
assoc_id_holds (assoc.ConstId n) = held.Item item.Const n.0
assoc_id_holds (assoc.TypeAliasId n) = held.Item item.TypeAlias n.0

-- an `impl` and an `extern` block are opaque
abbrev pub container_holds : ItemContainerId → List HeldId
container_holds (container.ExternBlockId n) = []
container_holds (container.ModuleId m) = held.Module m ∷ []
container_holds (container.ImplId n) = []
container_holds (container.TraitId n) = held.Item item.Trait n.0 ∷ []

abbrev pub assoc_holds : AssocItemId × (ItemContainerId × RawVisibility) → List HeldId
assoc_holds e = (assoc_id_holds e.0 ∷ []) ++ (container_holds e.1.0 ++ raw_holds e.1.1)

abbrev pub trait_holds : TraitId × RawVisibility → List HeldId
trait_holds e = (held.Item item.Trait e.0.0 ∷ []) ++ raw_holds e.1

-- the tables that belong to no map and no module
abbrev pub tables_hold : ItemTables → List HeldId
tables_hold t = flat_map field_list_holds t.fields ++ (flat_map assoc_holds t.assocs ++ flat_map trait_holds t.traits)
