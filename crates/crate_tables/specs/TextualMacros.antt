-- Textual macros of a crate in the scopes of a builder.
use Rattle.std.specs.Prelude.{◌+◌, ℕ, IsTrue, List, [], ◌∷◌, Option, None, Some, slice_get}
use Rattle.std.specs.Option.{option_map_or}
use Rattle.crate_items.specs.TextualScopes.{Scopes, name_at}
use Rattle.crate_items.specs.declared.items.declared_item.DeclaredItem.{DeclaredItem}
use Rattle.crate_items.specs.declared.macros.textual_scopes.TextualMacro.{TextualMacro}
use Rattle.crate_tables.specs.Visibilities.{Ids, id_at}
use Rattle.dm_maps.specs.declared.check.held.HeldId.{HeldId}
use Rattle.dm_base.specs.Names.{Name, same_name}
use Rattle.dm_base.specs.declared.ids.ModuleId.{ModuleId}
use Rattle.dm_base.specs.declared.item_ids.MacroId.{MacroId}
use Rattle.dm_maps.specs.Known.{knows}
use Rattle.dm_maps.specs.PushRes.{StaysShown}
use Rattle.dm_maps.specs.World.{World, scope_if_known, with_scope}
use Rattle.dm_scope.specs.Flags.{Globs}
use Rattle.dm_scope.specs.Scope.{Scope}
use Rattle.dm_scope.specs.TableLists.{add_to_list}

-- a macro is the last of its name in the textual scope of a module
abbrev pub with_legacy_in : World → ModuleId → Name → MacroId → Option Scope → World
with_legacy_in w m n id None = w
with_legacy_in w m n id (Some s) = with_scope w m (record s { legacy_macros = add_to_list same_name s.legacy_macros n id })

abbrev pub with_legacy : World → ModuleId → Name → MacroId → World
with_legacy w m n id = with_legacy_in w m n id (scope_if_known w m)

-- the macro that the item of a number is
abbrev pub macro_at : List (Option MacroId) → ℕ → Option MacroId
macro_at ids n = option_map_or (λ id. id) (slice_get ids n) None

-- what has no name is not defined
abbrev pub with_named : World → ModuleId → Option MacroId → Option Name → World
with_named w m None n = w
with_named w m (Some id) None = w
with_named w m (Some id) (Some n) = with_legacy w m n id

abbrev pub with_item : List DeclaredItem → List (Option MacroId) → World → ModuleId → ℕ → World
with_item xs ids w m i = with_named w m (macro_at ids i) (name_at xs i)

-- these macros, in order, in the scope of the module m
abbrev pub with_textual : List DeclaredItem → List (Option MacroId) → World → ModuleId → List TextualMacro → World
with_textual xs ids w m [] = w
with_textual xs ids w m (t ∷ ts) = with_textual xs ids (with_item xs ids w m t.number) m ts

-- a module that was left out has no scope
abbrev pub with_scope_of : List DeclaredItem → List (Option MacroId) → World → Option ModuleId → List TextualMacro → World
with_scope_of xs ids w None ts = w
with_scope_of xs ids w (Some m) ts = with_textual xs ids w m ts

abbrev pub with_scopes_from : List DeclaredItem → List (Option MacroId) → Ids → World → ℕ → Scopes → World
with_scopes_from xs ids modules w n [] = w
with_scopes_from xs ids modules w n (s ∷ ss) = with_scopes_from xs ids modules (with_scope_of xs ids w (id_at modules n) s) (n + 1) ss

-- Each module of the list gets the macros of its textual scope.
abbrev pub with_scopes : List DeclaredItem → List (Option MacroId) → Ids → World → Scopes → World
with_scopes xs ids modules w ss = with_scopes_from xs ids modules w 0 ss

-- what was known is known
abbrev pub StaysKnown : World → World → Type 0
StaysKnown w v = (h : HeldId) → IsTrue (knows w h) → IsTrue (knows v h)

-- textual macros are no part of what a scope shows: each scope shows what it showed
abbrev pub AllStayShown : World → World → Type 0
AllStayShown w v = (g : Globs) (k : ModuleId) → StaysShown w g v g k
