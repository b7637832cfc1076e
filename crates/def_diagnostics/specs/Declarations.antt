-- All that is wrong with the declarations of a crate.
use Rattle.std.specs.Prelude.{◌++◌, List, map}
use Rattle.std.specs.List.{flat_map}
use Rattle.def_diagnostics.specs.Duplicates.{duplicates}
use Rattle.def_diagnostics.specs.ExternCrates.{unresolved_extern_crate}
use Rattle.def_diagnostics.specs.ModuleFaults.{unresolved_module}
use Rattle.def_diagnostics.specs.Visibilities.{unresolved_visibility}
use Rattle.def_diagnostics.specs.declared.diagnostic.Diagnostic.{Diagnostic}
use Rattle.crate_items.specs.declared.items.declared_item.DeclaredItem.{DeclaredItem}
use Rattle.crate_items.specs.Files.{SourceFile}
use Rattle.crate_items.specs.Modules.{Listing}
use Rattle.crate_items.specs.declared.files.dependency.Dependency.{Dependency}

-- modules that are not there, then extern crates, visibilities, and second declarations
abbrev pub declaration_faults : Listing → List SourceFile → List Dependency → List DeclaredItem → List Diagnostic
declaration_faults l files ds xs =
    ((map unresolved_module l.faults ++ flat_map (unresolved_extern_crate l files ds) xs)
    ++ flat_map unresolved_visibility xs) ++ duplicates l files xs
