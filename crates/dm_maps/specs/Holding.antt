-- Which ids definitions, items, paths and extern preludes hold.
use Rattle.std.specs.Prelude.{List, [], ◌∷◌, ◌++◌, Option, map}
use Rattle.std.specs.Option.{option_map_or}
use Rattle.dm_base.specs.declared.ids.ExternCrateId.{ExternCrateId}
use Rattle.dm_base.specs.declared.ids.ModuleId.{ModuleId}
use Rattle.dm_base.specs.declared.item_ids.ItemKind.TheVariants as item
use Rattle.dm_base.specs.declared.item_ids.ModuleDefId.{ModuleDefId}
use Rattle.dm_base.specs.declared.item_ids.ModuleDefId.TheVariants as def
use Rattle.dm_base.specs.declared.item_ids.AdtId.TheVariants as adt
use Rattle.dm_base.specs.declared.item_ids.MacroId.{MacroId}
use Rattle.dm_base.specs.declared.imports.ImportOrExternCrate.{ImportOrExternCrate}
use Rattle.dm_base.specs.declared.imports.ImportOrExternCrate.TheVariants as wide
use Rattle.dm_base.specs.declared.imports.ImportOrGlob.{ImportOrGlob}
use Rattle.dm_base.specs.declared.imports.ImportOrGlob.TheVariants as narrow
use Rattle.dm_base.specs.declared.mod_path.PathKind.{PathKind}
use Rattle.dm_base.specs.declared.mod_path.PathKind.TheVariants as kind
use Rattle.dm_base.specs.declared.per_ns.Item.{Item}
use Rattle.dm_base.specs.declared.per_ns.PerNs.{PerNs}
use Rattle.dm_base.specs.declared.visibility.Visibility.{Visibility}
use Rattle.dm_base.specs.declared.visibility.Visibility.TheVariants as vis
use Rattle.dm_base.specs.Names.{Name}
use Rattle.dm_maps.specs.declared.check.held.HeldId.{HeldId}
use Rattle.dm_maps.specs.declared.check.held.HeldId.TheVariants as held

-- ---- What holds which ids. Extern crates are opaque, and builtin types are no ids.

abbrev pub def_holds : ModuleDefId → List HeldId
def_holds (def.ModuleId m) = held.Module m ∷ []
def_holds (def.FunctionId n) = held.Item item.Function n.0 ∷ []
def_holds (def.AdtId (adt.StructId n)) = held.Item item.Struct n.0 ∷ []
def_holds (def.AdtId (adt.UnionId n)) = held.Item item.Union n.0 ∷ []
def_holds (def.AdtId (adt.EnumId n)) = held.Item item.Enum n.0 ∷ []
def_holds (def.EnumVariantId v) = held.Variant v ∷ []
def_holds (def.ConstId n) = held.Item item.Const n.0 ∷ []
def_holds (def.StaticId n) = held.Item item.Static n.0 ∷ []
def_holds (def.TraitId n) = held.Item item.Trait n.0 ∷ []
def_holds (def.TypeAliasId n) = held.Item item.TypeAlias n.0 ∷ []
def_holds (def.BuiltinType b) = []
def_holds (def.MacroId m) = held.Macro m ∷ []

abbrev pub vis_holds : Visibility → List HeldId
vis_holds (vis.Module m e) = held.Module m ∷ []
vis_holds (vis.PubCrate k) = held.Crate k ∷ []
vis_holds vis.Public = []

abbrev pub import_holds : ImportOrExternCrate → List HeldId
import_holds (wide.Glob i) = held.Use i.use_ ∷ []
import_holds (wide.Import i) = held.Use i.use_ ∷ []
import_holds (wide.ExternCrate k) = []

abbrev pub value_import_holds : ImportOrGlob → List HeldId
value_import_holds (narrow.Glob i) = held.Use i.use_ ∷ []
value_import_holds (narrow.Import i) = held.Use i.use_ ∷ []

abbrev pub type_holds : Item ModuleDefId ImportOrExternCrate → List HeldId
type_holds i = def_holds i.def ++ vis_holds i.vis ++ option_map_or import_holds i.import []

abbrev pub value_holds : Item ModuleDefId ImportOrGlob → List HeldId
value_holds i = def_holds i.def ++ vis_holds i.vis ++ option_map_or value_import_holds i.import []

abbrev pub macro_holds : Item MacroId ImportOrExternCrate → List HeldId
macro_holds i = (held.Macro i.def ∷ []) ++ vis_holds i.vis ++ option_map_or import_holds i.import []

-- what an item set holds
abbrev pub res_holds : PerNs → List HeldId
res_holds x = option_map_or type_holds x.types [] ++ option_map_or value_holds x.values [] ++ option_map_or macro_holds x.macros []

-- a path holds the crate of its `$crate`
abbrev pub path_holds : PathKind → List HeldId
path_holds (kind.DollarCrate k) = held.Crate k ∷ []
path_holds _ = []

-- an extern prelude holds its modules
abbrev pub local_holds : List (Name × (ModuleId × Option ExternCrateId)) → List HeldId
local_holds L = map (λ e. held.Module e.0) (map (λ e. e.1) L)
