-- Short forms for example worlds and rows, after the words of the script language.
use Rattle.std.specs.Prelude.{ℕ, Bool, List, [], Option, Some, None}
use Rattle.dm_base.specs.declared.ids.ModuleId.{ModuleId}
use Rattle.dm_base.specs.declared.ids.MapId.{MapId}
use Rattle.dm_base.specs.declared.builtin_type.BuiltinType.{BuiltinType}
use Rattle.dm_base.specs.declared.imports.ImportId.{ImportId}
use Rattle.dm_base.specs.declared.imports.ImportOrDef.{ImportOrDef}
use Rattle.dm_base.specs.declared.imports.ImportOrExternCrate.{ImportOrExternCrate}
use Rattle.dm_base.specs.declared.imports.ImportOrExternCrate.TheVariants as wide
use Rattle.dm_base.specs.declared.imports.ImportOrGlob.{ImportOrGlob}
use Rattle.dm_base.specs.declared.imports.ImportOrGlob.TheVariants as narrow
use Rattle.dm_base.specs.declared.item_ids.ModuleDefId.{ModuleDefId}
use Rattle.dm_base.specs.declared.item_ids.ModuleDefId.TheVariants as def
use Rattle.dm_base.specs.declared.item_ids.AdtId.TheVariants as adt
use Rattle.dm_base.specs.declared.item_ids.MacroId.{MacroId}
use Rattle.dm_base.specs.declared.item_ids.MacroId.TheVariants.{MacroRulesId, ProcMacroId}
use Rattle.dm_base.specs.declared.mod_path.PathKind.{PathKind}
use Rattle.dm_base.specs.declared.per_ns.Item.{Item}
use Rattle.dm_base.specs.declared.edition.Edition.{Edition}
use Rattle.dm_base.specs.declared.edition.Edition.TheVariants.{Edition2021}
use Rattle.dm_base.specs.declared.source.HirFileId.TheVariants.{File}
use Rattle.dm_base.specs.declared.visibility.Visibility.{Visibility}
use Rattle.dm_base.specs.declared.visibility.Visibility.TheVariants.{Module, PubCrate, Public}
use Rattle.dm_base.specs.declared.visibility.VisibilityExplicitness.{VisibilityExplicitness}
use Rattle.dm_base.specs.Names.{Name}
use Rattle.dm_scope.specs.Bindings.{Bound}
use Rattle.dm_scope.specs.Scope.{Scope, no_scope}
use Rattle.dm_def_map.specs.declared.modules.modes.BuiltinShadowMode.{BuiltinShadowMode}
use Rattle.dm_def_map.specs.declared.modules.modes.BuiltinShadowMode.TheVariants as asks
use Rattle.dm_def_map.specs.declared.modules.modes.MacroSubNs.{MacroSubNs}
use Rattle.dm_def_map.specs.declared.modules.module_origin.ModuleOrigin.TheVariants.{Inline}
use Rattle.dm_maps.specs.declared.place.Place.{Place}
use Rattle.dm_def_map.specs.CrateData.{fresh_data}
use Rattle.dm_def_map.specs.Maps as maps
use Rattle.dm_def_map.specs.Maps.{Map, Modules, LocalMap}
use Rattle.dm_maps.specs.World.{World}
use Rattle.hir_def_map.specs.declared.path_resolution.result.ResolveMode.{ResolveMode}
use Rattle.hir_def_map.specs.declared.path_resolution.result.ResolveMode.TheVariants.{Other}
use Rattle.hir_def_map.specs.declared.path_resolution.result.ReachedFixedPoint.{ReachedFixedPoint}
use Rattle.hir_def_map.specs.declared.path_resolution.result.ResolvePathResult.{ResolvePathResult}
use Rattle.hir_def_map.specs.Paths.{answer, asked}

-- definitions by their numbers
abbrev pub a_module : ℕ → ModuleDefId
a_module n = def.ModuleId (record { 0 = n })

abbrev pub a_struct : ℕ → ModuleDefId
a_struct n = def.AdtId (adt.StructId (record { 0 = n }))

abbrev pub a_function : ℕ → ModuleDefId
a_function n = def.FunctionId (record { 0 = n })

abbrev pub an_enum : ℕ → ModuleDefId
an_enum n = def.AdtId (adt.EnumId (record { 0 = n }))

abbrev pub a_variant : ℕ → ModuleDefId
a_variant n = def.EnumVariantId (record { 0 = n })

abbrev pub a_builtin : BuiltinType → ModuleDefId
a_builtin b = def.BuiltinType b

abbrev pub by_rules : ℕ → MacroId
by_rules n = MacroRulesId (record { 0 = n })

abbrev pub procedural : ℕ → MacroId
procedural n = ProcMacroId (record { 0 = n })

-- visibilities and imports
abbrev pub within : ℕ → VisibilityExplicitness → Visibility
within m e = Module (record { 0 = m }) e

abbrev pub within_crate : ℕ → Visibility
within_crate k = PubCrate (record { 0 = k })

abbrev pub leaf : ℕ → ℕ → ImportId
leaf u i = record { use_ = record { 0 = u }; idx = record { 0 = i } }

abbrev pub named : ℕ → ℕ → ImportOrExternCrate
named u i = wide.Import (leaf u i)

abbrev pub glob : ℕ → ℕ → ImportOrExternCrate
glob u i = wide.Glob (record { use_ = record { 0 = u }; idx = record { 0 = i } })

abbrev pub extern_crate : ℕ → ImportOrExternCrate
extern_crate n = wide.ExternCrate (record { 0 = n })

abbrev pub named_value : ℕ → ℕ → ImportOrGlob
named_value u i = narrow.Import (leaf u i)

abbrev pub an_item : {D I : Type 0} → D → Visibility → Option I → Item D I
an_item d v i = record { def = d; vis = v; import = i }

-- an answer, by its six words
abbrev pub said : Option (Item ModuleDefId ImportOrExternCrate) → Option (Item ModuleDefId ImportOrGlob) → Option (Item MacroId ImportOrExternCrate) → ReachedFixedPoint → Option ℕ → Bool → Bool → ResolvePathResult
said t v m status index differing variant = record {
  resolved_def = record { types = t; values = v; macros = m };
  segment_index = index;
  reached_fixedpoint = status;
  prefix_info = record { differing_crate = differing; enum_variant = variant };
}

-- what a path means from module m
abbrev pub meaning : World → LocalMap → ℕ → ResolveMode → BuiltinShadowMode → Option MacroSubNs → PathKind → List Name → ResolvePathResult
meaning w L m mode shadow expected kind segments = answer w L (asked (record { 0 = m }) mode shadow expected kind) segments

-- the same of a path that is no import's, where modules shadow builtin types and no macro is expected
abbrev pub meant : World → LocalMap → ℕ → PathKind → List Name → ResolvePathResult
meant w L m kind segments = meaning w L m Other asks.Module None kind segments

-- tables of worked worlds
abbrev pub crate_id : ℕ → MapId
crate_id k = record { krate = record { 0 = k }; block = None }

abbrev pub block_id : ℕ → ℕ → MapId
block_id k b = record { krate = record { 0 = k }; block = Some (record { 0 = b }) }

abbrev pub number : ℕ → ModuleId
number m = record { 0 = m }

abbrev pub place : MapId → ℕ → Option ModuleId → Place
place id i parent = record { map = id; index = i; parent = parent }

abbrev pub bindings : {D I : Type 0} → List (Name × Item D I) → List (I × ImportOrDef) → Bound D I
bindings items records = record { items = items; records = records }

abbrev pub binds_types : List (Name × Item ModuleDefId ImportOrExternCrate) → Scope
binds_types items = record no_scope { types = bindings items [] }

-- a module with a scope, written where it is declared
abbrev pub module_with : ℕ → Option ModuleId → Scope → ModuleId × maps.Module
module_with m parent scope = (
  number m,
  record {
    origin = Inline (record { file = File (record { file = record { 0 = 0 }; edition = Edition2021 }); block = None }) (record { 0 = 0 });
    visibility = Public;
    parent = parent;
    children = [];
    scope = scope;
  },
)

abbrev pub a_map : MapId → Edition → ℕ → Option ModuleId → Modules → Map
a_map id edition root inside modules = record {
  id = id;
  edition = edition;
  root = number root;
  parent = inside;
  modules = modules;
  prelude = None;
  macro_use = [];
  macro_defs = [];
  derive_helpers = [];
  diagnostics = [];
  shared = fresh_data;
}
