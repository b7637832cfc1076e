-- Which names are taken behind some items.
use Rattle.std.specs.Prelude.{◌≡◌, ℕ, List, [], fold}
use Rattle.std.specs.List.{list_any}
use Rattle.def_diagnostics.specs.Duplicates.{taken_with}
use Rattle.def_diagnostics.specs.TakenNames.{names_of, same_taken}
use Rattle.def_diagnostics.specs.declared.taken_names.TakenName.{TakenName}
use Rattle.crate_items.specs.declared.items.declared_item.DeclaredItem.{DeclaredItem}
use Rattle.crate_items.specs.Files.{SourceFile}
use Rattle.crate_items.specs.Modules.{Listing}

abbrev pub TakenByItems : Type 0
TakenByItems = (l : Listing) (files : List SourceFile) (mods : List (ℕ × ℕ)) (ys : List DeclaredItem) (k : TakenName)
    → list_any (same_taken k) (fold (taken_with l files mods) [] ys) ≡ list_any (λ (y : DeclaredItem). list_any (same_taken k) (names_of l files mods y)) ys
