-- Diagnostics: what is told, and of which part of which file.
use Rattle.std.specs.Prelude.{ℕ}
use Rattle.def_diagnostics.specs.declared.diagnostic.Diagnostic.{Diagnostic}
use Rattle.def_diagnostics.specs.declared.diagnostic.DiagnosticKind.{DiagnosticKind}
use Rattle.def_diagnostics.specs.declared.diagnostic.Place.TheVariants.{Item}
use Rattle.crate_items.specs.declared.items.declared_item.DeclaredItem.{DeclaredItem}
use Rattle.dm_base.specs.declared.ids.FileId.{FileId}

-- what is told of the item of a number
abbrev pub at_item : FileId → ℕ → DiagnosticKind → Diagnostic
at_item f n kind = record { file = f; place = Item n; kind = kind }

-- what is told of an item
abbrev pub of_item : DiagnosticKind → DeclaredItem → Diagnostic
of_item kind x = at_item x.file x.item kind
