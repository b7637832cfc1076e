-- Second declarations of names.
use Rattle.std.specs.Prelude.{◌++◌, ℕ, List, [], ◌∷◌, Option, None, Some, fold}
use Rattle.std.specs.List.{find}
use Rattle.def_diagnostics.specs.DeclaredMods.{declared_mods}
use Rattle.def_diagnostics.specs.Diagnostics.{of_item}
use Rattle.def_diagnostics.specs.TakenNames.{is_taken, names_of, with_name}
use Rattle.def_diagnostics.specs.declared.diagnostic.Diagnostic.{Diagnostic}
use Rattle.def_diagnostics.specs.declared.diagnostic.DiagnosticKind.TheVariants as kind
use Rattle.def_diagnostics.specs.declared.taken_names.TakenName.{TakenName}
use Rattle.crate_items.specs.declared.items.declared_item.DeclaredItem.{DeclaredItem}
use Rattle.crate_items.specs.Files.{SourceFile}
use Rattle.crate_items.specs.Modules.{Listing}

abbrev pub duplicate : DeclaredItem → Option TakenName → List Diagnostic
duplicate x None = []
duplicate x (Some n) = of_item (kind.DuplicateDefinition n.name) x ∷ []

-- an item is a duplicate where one of the names that it takes is taken by an item before it: the first of them is told
abbrev pub told : Listing → List SourceFile → List (ℕ × ℕ) → List TakenName → DeclaredItem → List Diagnostic
told l files mods taken x = duplicate x (find (is_taken taken) (names_of l files mods x))

-- the names that are taken behind an item
abbrev pub taken_with : Listing → List SourceFile → List (ℕ × ℕ) → List TakenName → DeclaredItem → List TakenName
taken_with l files mods taken x = fold with_name taken (names_of l files mods x)

abbrev pub duplicates_from : Listing → List SourceFile → List (ℕ × ℕ) → List TakenName → List DeclaredItem → List Diagnostic
duplicates_from l files mods taken [] = []
duplicates_from l files mods taken (x ∷ xs) =
    told l files mods taken x ++ duplicates_from l files mods (taken_with l files mods taken x) xs

-- the duplicates among items, in order
abbrev pub duplicates : Listing → List SourceFile → List DeclaredItem → List Diagnostic
duplicates l files xs = duplicates_from l files (declared_mods l) [] xs
