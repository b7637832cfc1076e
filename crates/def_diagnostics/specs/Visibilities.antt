-- Visibilities that lead nowhere.
use Rattle.std.specs.Prelude.{List, [], ◌∷◌, Option, None, Some}
use Rattle.def_diagnostics.specs.Diagnostics.{of_item}
use Rattle.def_diagnostics.specs.declared.diagnostic.Diagnostic.{Diagnostic}
use Rattle.def_diagnostics.specs.declared.diagnostic.DiagnosticKind.TheVariants as kind
use Rattle.crate_items.specs.declared.items.declared_item.DeclaredItem.{DeclaredItem}
use Rattle.crate_items.specs.declared.modules.module_visibility.DeclaredVisibility.{DeclaredVisibility}

abbrev pub unresolved_if : DeclaredItem → Option DeclaredVisibility → List Diagnostic
unresolved_if x None = of_item kind.UnresolvedVisibility x ∷ []
unresolved_if x (Some v) = []

-- the visibility of an item is told of where it leads to no module around
abbrev pub unresolved_visibility : DeclaredItem → List Diagnostic
unresolved_visibility x = unresolved_if x x.visibility
