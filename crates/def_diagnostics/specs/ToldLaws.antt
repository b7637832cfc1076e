-- What is told in a def map comes back to where it is told of.
use Rattle.std.specs.Prelude.{◌≡◌, ◌++◌, List, Option, Some, length}
use Rattle.std.specs.List.{AllByRecursion}
use Rattle.def_diagnostics.specs.ItemModules.{MappedCrate}
use Rattle.def_diagnostics.specs.ToldInMaps.{Said, Told, calls_of, item_of, told, tree_of}
use Rattle.def_diagnostics.specs.ToldInMaps.{Missing, Plain}
use Rattle.def_diagnostics.specs.ToldPlaces.{item_place, place_of}
use Rattle.def_diagnostics.specs.declared.told_in_maps.CallPlace.{CallPlace}
use Rattle.def_diagnostics.specs.declared.told_places.ToldPlace.{ToldPlace}
use Rattle.def_diagnostics.specs.declared.diagnostic.Diagnostic.{Diagnostic}
use Rattle.def_diagnostics.specs.declared.diagnostic.DiagnosticKind.{DiagnosticKind}
use Rattle.def_diagnostics.specs.declared.diagnostic.DiagnosticKind.TheVariants as kind
use Rattle.def_diagnostics.specs.declared.diagnostic.Place.{Place}
use Rattle.def_diagnostics.specs.declared.diagnostic.Place.TheVariants.{Item, UseTree}

-- where a def map says it
abbrev pub place_said : List CallPlace → Said → Option ToldPlace
place_said calls (Missing ast paths) = item_place ast
place_said calls (Plain k) = place_of calls k

-- an import is told of at its use tree, and all else at its item
abbrev pub part_of : DiagnosticKind → Place → Place
part_of kind.UnresolvedImport p = UseTree (item_of p) (tree_of p)
part_of _ p = Item (item_of p)

abbrev pub landing : Diagnostic → ToldPlace
landing x = record { file = x.file; place = part_of x.kind x.place }

-- in a table that has the rows of a diagnostic from a number on, what is told of it with that number comes back
abbrev pub PlacesComeBack : Type 0
PlacesComeBack = (c : MappedCrate) (x : Diagnostic) (front rest : List CallPlace)
    → AllByRecursion (λ (t : Told). place_said (front ++ (calls_of x ++ rest)) t.kind ≡ Some (landing x)) (told c (length front) x)
