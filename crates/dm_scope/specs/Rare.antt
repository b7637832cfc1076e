-- The tables of a scope that are empty in most modules.
use Rattle.std.specs.Prelude.{Bool, List, [], Option, Some, None}
use Rattle.dm_base.specs.declared.ids.ImplId.{ImplId}
use Rattle.dm_base.specs.declared.ids.BuiltinDeriveImplId.{BuiltinDeriveImplId}
use Rattle.dm_base.specs.declared.ids.ExternBlockId.{ExternBlockId}
use Rattle.dm_base.specs.declared.ids.ExternCrateId.{ExternCrateId}
use Rattle.dm_base.specs.declared.ids.ConstId.{ConstId}
use Rattle.dm_base.specs.declared.ids.Crate.{Crate}
use Rattle.dm_base.specs.declared.ids.TraitId.{TraitId}
use Rattle.dm_base.specs.declared.ids.MacroCallId.{MacroCallId}
use Rattle.dm_base.specs.declared.source.AstId.{AstId}
use Rattle.dm_base.specs.declared.imports.ImportId.{ImportId}
use Rattle.dm_base.specs.declared.item_ids.MacroId.{MacroId}
use Rattle.dm_base.specs.declared.visibility.Visibility.{Visibility}
use Rattle.dm_base.specs.declared.visibility.Visibility.TheVariants.{PubCrate}
use Rattle.dm_base.specs.Names.{Name}
use Rattle.dm_scope.specs.declared.rare.RareTables.{RareTables}
use Rattle.dm_scope.specs.Derives.{Derive, derives_of}
use Rattle.dm_scope.specs.TableLists.{lists_of}

-- what the rare tables of a scope have: each is as the scope's own of that name
pub record RareScope : Type 0 where
  pub unresolved : List Name
  pub legacy_macros : List (Name × List MacroId)
  pub impls : List (ImplId × Bool)
  pub builtin_derive_impls : List BuiltinDeriveImplId
  pub extern_blocks : List ExternBlockId
  pub extern_crate_decls : List ExternCrateId
  pub unnamed_consts : List ConstId
  pub unnamed_traits : List (TraitId × Visibility × Option ImportId)
  pub attr_macros : List (AstId × MacroCallId)
  pub macro_invocations : List (AstId × MacroCallId)
  pub derive_macros : List (AstId × List Derive)

-- nothing in any of them
abbrev pub no_rare : RareScope
no_rare = record {
  unresolved = [];
  legacy_macros = [];
  impls = [];
  builtin_derive_impls = [];
  extern_blocks = [];
  extern_crate_decls = [];
  unnamed_consts = [];
  unnamed_traits = [];
  attr_macros = [];
  macro_invocations = [];
  derive_macros = [];
}

-- what tables have
abbrev pub rare_in : RareTables → RareScope
rare_in t = record {
  unresolved = t.unresolved.keys;
  legacy_macros = lists_of t.legacy_macros.entries;
  impls = t.impls.items;
  builtin_derive_impls = t.builtin_derive_impls.items;
  extern_blocks = t.extern_blocks.items;
  extern_crate_decls = t.extern_crate_decls.items;
  unnamed_consts = t.unnamed_consts.items;
  unnamed_traits = t.unnamed_traits.items;
  attr_macros = t.attr_macros.entries;
  macro_invocations = t.macro_invocations.entries;
  derive_macros = derives_of t.derive_macros.entries;
}

-- what tables have that may not have been made
abbrev pub rare_of : Option RareTables → RareScope
rare_of None = no_rare
rare_of (Some t) = rare_in t

-- an unnamed trait restricted to its crate
abbrev pub censored_trait : Crate → TraitId × Visibility × Option ImportId → TraitId × Visibility × Option ImportId
censored_trait k t = (t.0, PubCrate k, t.2)
