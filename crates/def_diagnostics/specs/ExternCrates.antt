-- Extern crates that lead nowhere.
use Rattle.std.specs.Prelude.{◌&&◌, Bool, true, false, not, List, [], ◌∷◌, Option, None, Some, if◌then◌else◌}
use Rattle.std.specs.List.{list_any}
use Rattle.def_diagnostics.specs.Diagnostics.{of_item}
use Rattle.def_diagnostics.specs.declared.diagnostic.Diagnostic.{Diagnostic}
use Rattle.def_diagnostics.specs.declared.diagnostic.DiagnosticKind.TheVariants as kind
use Rattle.crate_items.specs.DeclaredItems.{linked_crate}
use Rattle.crate_items.specs.declared.items.declared_item.DeclaredItem.{DeclaredItem}
use Rattle.crate_items.specs.declared.items.declared_item.LinkedCrate.{LinkedCrate}
use Rattle.crate_items.specs.declared.items.declared_item.LinkedCrate.TheVariants.{Itself, Named}
use Rattle.crate_items.specs.Files.{SourceFile}
use Rattle.crate_items.specs.Modules.{Listing}
use Rattle.crate_items.specs.declared.files.dependency.Dependency.{Dependency}
use Rattle.dm_base.specs.Names.{Name, same_name}
use Rattle.item_tree.specs.declared.items.item_kind.ItemKind.{ItemKind}
use Rattle.item_tree.specs.declared.items.item_kind.ItemKind.TheVariants as item

-- a dependency has the name, in the extern prelude or not
abbrev pub is_dependency : List Dependency → Name → Bool
is_dependency ds n = list_any (λ (d : Dependency). same_name d.name n) ds

-- the crate itself is always there, and another is if a dependency has the name
abbrev pub is_there : List Dependency → Option LinkedCrate → Bool
is_there ds None = false
is_there ds (Some Itself) = true
is_there ds (Some (Named n)) = is_dependency ds n

abbrev pub is_extern_crate : ItemKind → Bool
is_extern_crate item.ExternCrate = true
is_extern_crate _ = false

abbrev pub is_unresolved : Listing → List SourceFile → List Dependency → DeclaredItem → Bool
is_unresolved l files ds x = is_extern_crate x.kind && not (is_there ds (linked_crate l files x))

abbrev pub told_if : Bool → DeclaredItem → List Diagnostic
told_if unresolved x = if unresolved then of_item kind.UnresolvedExternCrate x ∷ [] else []

-- an `extern crate` is told of where its crate is not there
abbrev pub unresolved_extern_crate : Listing → List SourceFile → List Dependency → DeclaredItem → List Diagnostic
unresolved_extern_crate l files ds x = told_if (is_unresolved l files ds x) x
