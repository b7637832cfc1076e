-- The macro calls among the items of a crate, and the macros that they call.
use Rattle.std.specs.Prelude.{◌&&◌, ℕ, List, [], ◌∷◌, Option, None, Some, is_none, is_some, slice_get, if◌then◌else◌}
use Rattle.def_diagnostics.specs.MacroMeanings.{called_macro, knows_path}
use Rattle.def_diagnostics.specs.declared.macro_calls.MacroCall.{MacroCall}
use Rattle.def_diagnostics.specs.Diagnostics.{at_item}
use Rattle.def_diagnostics.specs.declared.diagnostic.Diagnostic.{Diagnostic}
use Rattle.def_diagnostics.specs.declared.diagnostic.DiagnosticKind.TheVariants as kind
use Rattle.crate_items.specs.MacroCalls.{macro_call_path}
use Rattle.crate_items.specs.declared.items.declared_item.DeclaredItem.{DeclaredItem}
use Rattle.crate_items.specs.Files.{SourceFile}
use Rattle.crate_items.specs.Modules.{Listing}
use Rattle.dm_base.specs.Path.{Path}
use Rattle.dm_maps.specs.declared.check.held.HeldId.TheVariants as held
use Rattle.dm_base.specs.declared.ids.ModuleId.{ModuleId}
use Rattle.dm_base.specs.declared.item_ids.MacroId.{MacroId}
use Rattle.dm_maps.specs.Known.{knows}
use Rattle.dm_maps.specs.World.{World}

-- the id of the module of a number in a crate's list, unless it was left out
abbrev pub if_added : Option (Option ModuleId) → Option ModuleId
if_added None = None
if_added (Some id) = id

abbrev pub id_at : List (Option ModuleId) → ℕ → Option ModuleId
id_at ids n = if_added (slice_get ids n)

-- the macro that a call calls, if the world has what it names
abbrev pub called_if_known : World → ModuleId → Path → Option MacroId
called_if_known w m p =
    if knows w (held.Module m) && knows_path w p.kind then called_macro w m p else None

abbrev pub call_in : World → DeclaredItem → ModuleId → Path → MacroCall
call_in w x m p =
    record { home = m; file = x.file; item = x.item; path = p; called = called_if_known w m p }

abbrev pub call_if : World → DeclaredItem → Option ModuleId → Option Path → List MacroCall
call_if w x (Some m) (Some p) = call_in w x m p ∷ []
call_if w x _ _ = []

-- an item as a macro call, if it is one of a module that was not left out
abbrev pub call_of : World → Listing → List SourceFile → List (Option ModuleId) → DeclaredItem → List MacroCall
call_of w l files ids x = call_if w x (id_at ids x.«module») (macro_call_path l files x)

-- a call that calls no macro is told of
abbrev pub unresolved_macro_call : MacroCall → List Diagnostic
unresolved_macro_call c =
    if is_none c.called then at_item c.file c.item (kind.UnresolvedMacroCall c.path) ∷ [] else []

-- the module that a call stands in
abbrev pub home_of : MacroCall → ModuleId
home_of c = c.home

-- the same, if it calls a macro
abbrev pub known_home : MacroCall → List ModuleId
known_home c = if is_some c.called then c.home ∷ [] else []
