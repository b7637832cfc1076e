-- `ItemScope`, as contracts see it.
use Rattle.std.specs.Prelude.{Bool, List, [], Option, Some, None}
use Rattle.dm_base.specs.declared.ids.ImplId.{ImplId}
use Rattle.dm_base.specs.declared.ids.BuiltinDeriveImplId.{BuiltinDeriveImplId}
use Rattle.dm_base.specs.declared.ids.ExternBlockId.{ExternBlockId}
use Rattle.dm_base.specs.declared.ids.ExternCrateId.{ExternCrateId}
use Rattle.dm_base.specs.declared.ids.ConstId.{ConstId}
use Rattle.dm_base.specs.declared.ids.TraitId.{TraitId}
use Rattle.dm_base.specs.declared.ids.MacroCallId.{MacroCallId}
use Rattle.dm_base.specs.declared.source.AstId.{AstId}
use Rattle.dm_base.specs.declared.imports.ImportId.{ImportId}
use Rattle.dm_base.specs.declared.imports.ImportOrExternCrate.{ImportOrExternCrate}
use Rattle.dm_base.specs.declared.imports.ImportOrGlob.{ImportOrGlob}
use Rattle.dm_base.specs.declared.item_ids.ModuleDefId.{ModuleDefId}
use Rattle.dm_base.specs.declared.item_ids.MacroId.{MacroId}
use Rattle.dm_base.specs.declared.per_ns.PerNs.{PerNs}
use Rattle.dm_base.specs.declared.visibility.Visibility.{Visibility}
use Rattle.dm_base.specs.Names.{Name, find_name}
use Rattle.dm_scope.specs.Bindings.{Bound}
use Rattle.dm_scope.specs.Pushes.{last_of}
use Rattle.dm_scope.specs.Derives.{Derive}

-- A scope: what it binds in each namespace, the names that no import could resolve, its legacy macros (those in textual
-- scope) by name, and the lists of what is defined in it.
pub record Scope : Type 0 where
  pub types : Bound ModuleDefId ImportOrExternCrate
  pub values : Bound ModuleDefId ImportOrGlob
  pub macros : Bound MacroId ImportOrExternCrate
  pub unresolved : List Name
  pub legacy_macros : List (Name × List MacroId)
  pub declarations : List ModuleDefId
  pub impls : List (ImplId × Bool)
  pub builtin_derive_impls : List BuiltinDeriveImplId
  pub extern_blocks : List ExternBlockId
  pub extern_crate_decls : List ExternCrateId
  pub unnamed_consts : List ConstId
  pub unnamed_traits : List (TraitId × Visibility × Option ImportId)
  pub attr_macros : List (AstId × MacroCallId)
  pub macro_invocations : List (AstId × MacroCallId)
  -- the derive attributes of each item
  pub derive_macros : List (AstId × List Derive)

-- a fresh scope
abbrev pub no_scope : Scope
no_scope = record {
  types = record { items = []; records = [] };
  values = record { items = []; records = [] };
  macros = record { items = []; records = [] };
  unresolved = [];
  legacy_macros = [];
  declarations = [];
  impls = [];
  builtin_derive_impls = [];
  extern_blocks = [];
  extern_crate_decls = [];
  unnamed_consts = [];
  unnamed_traits = [];
  attr_macros = [];
  macro_invocations = [];
  derive_macros = [];
}

-- what a scope binds under a name
abbrev pub bound_in : Scope → Name → PerNs
bound_in s n = record { types = find_name n s.types.items; values = find_name n s.values.items; macros = find_name n s.macros.items }

-- the last legacy macro of a scope under a name
abbrev pub legacy_in : Scope → Name → Option MacroId
legacy_in s n = elim (find_name n s.legacy_macros) [ None ↦ None | Some ms ↦ last_of ms ]
