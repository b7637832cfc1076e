-- Modules and def maps, as contracts see them.
use Rattle.std.specs.Prelude.{ℕ, List, [], ◌∷◌, ◌++◌, Option, Some, None, map, slice_get}
use Rattle.std.specs.Option.{option_map}
use Rattle.std.specs.Map.{lookup}
use Rattle.indexmap.specs.IndexMap.{set_value_at, insert_entry}
use Rattle.dm_base.specs.declared.ids.ModuleId.{ModuleId}
use Rattle.dm_base.specs.declared.ids.MapId.{MapId}
use Rattle.dm_base.specs.declared.ids.UseId.{UseId}
use Rattle.dm_base.specs.declared.ids.ExternCrateId.{ExternCrateId}
use Rattle.dm_base.specs.declared.item_ids.MacroId.{MacroId}
use Rattle.dm_base.specs.declared.source.AstId.{AstId}
use Rattle.dm_base.specs.declared.edition.Edition.{Edition}
use Rattle.dm_base.specs.declared.visibility.Visibility.{Visibility}
use Rattle.dm_base.specs.Names.{Name, same_name}
use Rattle.dm_base.specs.Tree.{same_module}
use Rattle.dm_scope.specs.declared.diagnostics.DefDiagnostic.{DefDiagnostic}
use Rattle.dm_scope.specs.Scope.{Scope, no_scope}
use Rattle.dm_def_map.specs.declared.modules.module_origin.ModuleOrigin.{ModuleOrigin}
use Rattle.dm_def_map.specs.CrateData.{CrateData, fresh_data}
use Rattle.dm_def_map.specs.Helpers.{Helper}

-- a module: its origin, its visibility, its parent in its map, its children by name, its scope
pub record Module : Type 0 where
  pub origin : ModuleOrigin
  pub visibility : Visibility
  pub parent : Option ModuleId
  pub children : List (Name × ModuleId)
  pub scope : Scope

-- the extern prelude of a crate: roots of other crates by name, each with the item that named it
abbrev pub LocalMap : Type 0
LocalMap = List (Name × (ModuleId × Option ExternCrateId))

-- the modules of a map, by number
abbrev pub Modules : Type 0
Modules = List (ModuleId × Module)

-- The def map of a crate or of a block expression: its root, the module that contains its block, its modules, its
-- prelude module, the `#[macro_use]` prelude, the macro that each AST item defines, the derive helpers on each, its
-- diagnostics, and the data that all def maps of the crate share.
pub record Map : Type 0 where
  pub id : MapId
  pub edition : Edition
  pub root : ModuleId
  pub parent : Option ModuleId
  pub modules : Modules
  pub prelude : Option (ModuleId × Option UseId)
  pub macro_use : List (Name × (MacroId × Option ExternCrateId))
  pub macro_defs : List (AstId × MacroId)
  pub derive_helpers : List (AstId × List Helper)
  pub diagnostics : List DefDiagnostic
  pub shared : CrateData

-- the module of that number
abbrev pub module_at : Modules → ModuleId → Option Module
module_at es m = lookup (same_module m) es

-- the module at index i
abbrev pub nth_module : Modules → ℕ → Option Module
nth_module es i = slice_get (map (λ e. e.1) es) i

-- its scope
abbrev pub nth_scope : Modules → ℕ → Option Scope
nth_scope es i = option_map (λ d. d.scope) (nth_module es i)

abbrev pub put_scope : Modules → ℕ → Option Module → Scope → Modules
put_scope es i None s = es
put_scope es i (Some d) s = set_value_at es i (record d { scope = s })

-- the modules with s as the scope of the module at index i
abbrev pub with_scope_at : Modules → ℕ → Scope → Modules
with_scope_at es i s = put_scope es i (nth_module es i) s

-- the map with s as the scope of the module at index i
abbrev pub map_with_scope : Map → ℕ → Scope → Map
map_with_scope m i s = record m { modules = with_scope_at m.modules i s }

-- a new module: it has no children, and its scope binds nothing
abbrev pub fresh_module : ModuleOrigin → Visibility → Option ModuleId → Module
fresh_module o v p = record { origin = o; visibility = v; parent = p; children = []; scope = no_scope }

-- the module with m as its child of that name
abbrev pub with_child : Module → Name → ModuleId → Module
with_child d n m = record d { children = insert_entry same_name d.children n m }

abbrev pub put_child : Modules → ℕ → Option Module → Name → ModuleId → Modules
put_child es i None n m = es
put_child es i (Some d) n m = set_value_at es i (with_child d n m)

-- the modules with m as a child of the module at index i
abbrev pub with_child_at : Modules → ℕ → Name → ModuleId → Modules
with_child_at es i n m = put_child es i (nth_module es i) n m

-- the modules with one more, of number m, that is a child of the module at index i
abbrev pub with_new_child : Modules → ℕ → Name → ModuleId → Module → Modules
with_new_child es i n m d = with_child_at (es ++ (m, d) ∷ []) i n m

-- the map with one more module, of number m, that is a child of the module at index i
abbrev pub map_with_child : Map → ℕ → Name → ModuleId → Module → Map
map_with_child map i n m d = record map { modules = with_new_child map.modules i n m d }

-- a new map, with its root alone
abbrev pub fresh_map : MapId → Edition → Option ModuleId → ModuleId → Module → Map
fresh_map id e p m d = record { id = id; edition = e; root = m; parent = p; modules = (m, d) ∷ []; prelude = None; macro_use = []; macro_defs = []; derive_helpers = []; diagnostics = []; shared = fresh_data }
