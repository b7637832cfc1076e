-- Short forms for example def maps: one crate, of edition 2021 where nothing else is said, whose modules are in the root.
use Rattle.std.specs.Prelude.{ℕ, zero, suc, false, List, [], ◌∷◌, Option, Some, None, map}
use Rattle.dm_base.specs.declared.edition.Edition.TheVariants.{Edition2015, Edition2021}
use Rattle.dm_base.specs.declared.ids.MapId.{MapId}
use Rattle.dm_base.specs.declared.ids.ModuleId.{ModuleId}
use Rattle.dm_base.specs.declared.imports.GlobId.{GlobId}
use Rattle.dm_base.specs.declared.imports.ImportId.{ImportId}
use Rattle.dm_base.specs.declared.imports.ImportOrExternCrate.{ImportOrExternCrate}
use Rattle.dm_base.specs.declared.imports.ImportOrGlob.{ImportOrGlob}
use Rattle.dm_base.specs.declared.item_ids.AdtId.TheVariants as adt
use Rattle.dm_base.specs.declared.item_ids.MacroId.{MacroId}
use Rattle.dm_base.specs.declared.item_ids.MacroId.TheVariants as macro
use Rattle.dm_base.specs.declared.item_ids.ModuleDefId.{ModuleDefId}
use Rattle.dm_base.specs.declared.item_ids.ModuleDefId.TheVariants as def
use Rattle.dm_base.specs.declared.mod_path.PathKind.TheVariants as kind
use Rattle.dm_base.specs.declared.per_ns.Item.{Item}
use Rattle.dm_base.specs.declared.source.HirFileId.TheVariants.{File}
use Rattle.dm_base.specs.declared.visibility.Visibility.{Visibility}
use Rattle.dm_base.specs.declared.visibility.Visibility.TheVariants.{Module, Public}
use Rattle.dm_base.specs.declared.visibility.VisibilityExplicitness.TheVariants.{Explicit}
use Rattle.dm_base.specs.Names.{Name}
use Rattle.dm_base.specs.Path.{Path}
use Rattle.dm_def_map.specs.declared.modules.module_origin.ModuleOrigin.TheVariants.{Inline}
use Rattle.dm_def_map.specs.CrateData.{fresh_data}
use Rattle.dm_def_map.specs.Maps as maps
use Rattle.dm_maps.specs.declared.place.Place.{Place}
use Rattle.dm_maps.specs.Build.{no_world}
use Rattle.dm_maps.specs.World.{World}
use Rattle.dm_scope.specs.Scope.{Scope, no_scope}
use Rattle.dm_imports.specs.declared.glob_import.GlobImport.{GlobImport}
use Rattle.dm_imports.specs.declared.meaning.Meaning.{Meaning}
use Rattle.dm_imports.specs.declared.meaning.Source.{Source}
use Rattle.dm_imports.specs.declared.named_import.ImportKind.TheVariants.{All}
use Rattle.dm_imports.specs.declared.named_import.NamedImport.{NamedImport}

abbrev pub number : ℕ → ModuleId
number m = record { 0 = m }

abbrev pub a_module : ℕ → ModuleDefId
a_module n = def.ModuleId (number n)

abbrev pub a_struct : ℕ → ModuleDefId
a_struct n = def.AdtId (adt.StructId (record { 0 = n }))

abbrev pub a_function : ℕ → ModuleDefId
a_function n = def.FunctionId (record { 0 = n })

abbrev pub a_macro : ℕ → MacroId
a_macro n = macro.MacroRulesId (record { 0 = n })

abbrev pub within : ℕ → Visibility
within m = Module (number m) Explicit

-- the import and the glob of a use
abbrev pub leaf : ℕ → ImportId
leaf u = record { use_ = record { 0 = u }; idx = record { 0 = 0 } }

abbrev pub star : ℕ → GlobId
star u = record { use_ = record { 0 = u }; idx = record { 0 = 0 } }

-- what is bound: a declaration, by an import, and by a glob
abbrev pub a_type : ModuleDefId → Visibility → Option ImportOrExternCrate → Item ModuleDefId ImportOrExternCrate
a_type d v i = record { def = d; vis = v; import = i }

abbrev pub a_value : ModuleDefId → Visibility → Option ImportOrGlob → Item ModuleDefId ImportOrGlob
a_value d v i = record { def = d; vis = v; import = i }

abbrev pub types_and_values : List (Name × Item ModuleDefId ImportOrExternCrate) → List (Name × Item ModuleDefId ImportOrGlob) → Scope
types_and_values ts vs = record no_scope {
  types = record { items = ts; records = [] };
  values = record { items = vs; records = [] };
}

-- a module that declares macros alone, for all
abbrev pub with_macros : List (Name × MacroId) → Scope
with_macros ms = record no_scope {
  macros = record { items = map (λ m. (m.0, record { def = m.1; vis = Public; import = None })) ms; records = [] };
}

abbrev pub crate_id : MapId
crate_id = record { krate = record { 0 = 0 }; block = None }

abbrev pub parent_of : ℕ → Option ModuleId
parent_of zero = None
parent_of (suc n) = Some (number 0)

abbrev pub module_with : ℕ × Scope → ModuleId × maps.Module
module_with e = (
  number e.0,
  record {
    origin = Inline (record { file = File (record { file = record { 0 = 0 }; edition = Edition2021 }); block = None }) (record { 0 = 0 });
    visibility = Public;
    parent = parent_of e.0;
    children = [];
    scope = e.1;
  },
)

abbrev pub place : ℕ × Scope → Place
place e = record { map = crate_id; index = e.0; parent = parent_of e.0 }

-- a world with these modules, each with its number, of which the first is the root
abbrev pub world_of : List (ℕ × Scope) → World
world_of ms = record no_world {
  crate_maps = record {
    id = crate_id;
    edition = Edition2021;
    root = number 0;
    parent = None;
    modules = map module_with ms;
    prelude = None;
    macro_use = [];
    macro_defs = [];
    derive_helpers = [];
    diagnostics = [];
    shared = fresh_data;
  } ∷ [];
  places = map place ms;
  local_maps = [] ∷ [];
}

abbrev pub plain : List Name → Path
plain ns = record { kind = kind.Plain; segments = ns }

-- `pub use path as name`, and `pub use path::*`, in a module; each use has one leaf
abbrev pub import : ℕ → ℕ → Name → List Name → NamedImport
import u m n ns = record { home = number m; name = n; path = plain ns; vis = Public; kind = All; import = leaf u; textual = None }

-- the same, behind a textual macro of the path's name
abbrev pub behind : MacroId → NamedImport → NamedImport
behind t i = record i { textual = Some t }

abbrev pub glob : ℕ → ℕ → Visibility → List Name → GlobImport
glob u m v ns = record { into = number m; path = plain ns; vis = v; import = star u }

abbrev pub meant : ModuleDefId → Visibility → Source → Option Meaning
meant d v s = Some (record { def = d; vis = v; source = s; is_ambiguous = false })

-- the same world, of edition 2015
abbrev pub in_2015 : World → World
in_2015 w = record w { crate_maps = map (λ (m : maps.Map). record m { edition = Edition2015 }) w.crate_maps }
