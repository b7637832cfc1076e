-- What is told in a def map comes back to where it is told of.
use Rattle.std.proofs.Common.{◌≡◌, ◌++◌, ◌^◌, ℕ, Bool, true, false, List, [], ◌∷◌, Option, Some, None, ap, length, nat_lt, refl, slice_get}
use Rattle.std.specs.List.{AllByRecursion}
use Rattle.std.specs.Prelude.{option_map, if◌then◌else◌}
use Rattle.def_diagnostics.specs.ItemModules.{module_of}
use Rattle.def_diagnostics.specs.ToldInMaps.{Told, call_said, calls_by, item_of, said_of, told_as, told_at}
use Rattle.def_diagnostics.specs.ToldLaws.{PlacesComeBack, part_of, place_said}
use Rattle.def_diagnostics.specs.ToldPlaces.{place_by}
use Rattle.def_diagnostics.specs.declared.told_in_maps.CallPlace.{CallPlace}
use Rattle.def_diagnostics.specs.declared.told_places.ToldPlace.{ToldPlace}
use Rattle.def_diagnostics.specs.declared.diagnostic.Diagnostic.{Diagnostic}
use Rattle.def_diagnostics.specs.declared.diagnostic.DiagnosticKind.{DiagnosticKind}
use Rattle.def_diagnostics.specs.declared.diagnostic.DiagnosticKind.TheVariants as kind
use Rattle.def_diagnostics.specs.declared.diagnostic.Place.{Place}
use Rattle.dm_base.specs.Path.{Path}
use Rattle.dm_base.specs.declared.ids.Crate.{Crate}
use Rattle.dm_base.specs.declared.ids.FileId.{FileId}
use Rattle.dm_base.specs.declared.ids.ModuleId.{ModuleId}
use Rattle.dm_base.specs.declared.source.AstId.{AstId}
use Rattle.dm_base.specs.declared.edition.Edition.{Edition}
use Rattle.dm_base.specs.declared.source.HirFileId.TheVariants as hir

row_at : (front rest : List CallPlace) (row : CallPlace) → slice_get (front ++ row ∷ rest) (length front) ≡ Some row
row_at [] rest row = refl
row_at (x ∷ front) rest row = row_at front rest row

-- it comes back to a place
abbrev Lands : List CallPlace → ToldPlace → List Told → Type 0
Lands calls at ts = AllByRecursion (λ (t : Told). place_said calls t.kind ≡ Some at) ts

abbrev at_item : Edition → FileId → ℕ → AstId
at_item e f n = record { file_id = hir.File (record { file = f; edition = e }); value = record { 0 = n } }

call_lands : (m : ModuleId) (path : Path) (b : Bool) (front rest : List CallPlace) (row : CallPlace)
    → Lands (front ++ row ∷ rest) (place_by row)
    (told_as m (call_said (if b then Some (record { 0 = length front }) else None) path))
call_lands m path false front rest row = tt
call_lands m path true front rest row = (ap (option_map place_by) (row_at front rest row), tt)

kind_lands : (k : Crate) (m : ModuleId) (e : Edition) (f : FileId) (p : Place) (x : DiagnosticKind) (front rest : List CallPlace)
    → Lands (front ++ (calls_by x f (item_of p) ++ rest)) (record { file = f; place = part_of x p })
    (told_as m (said_of k (length front) (at_item e f (item_of p)) p x))
kind_lands k m e f p (kind.UnresolvedModule paths) front rest = (refl, tt)
kind_lands k m e f p kind.ModuleInItself front rest = tt
kind_lands k m e f p kind.UnresolvedExternCrate front rest = (refl, tt)
kind_lands k m e f p kind.UnresolvedImport front rest = (refl, tt)
kind_lands k m e f p (kind.UnresolvedMacroCall path) front rest =
    call_lands m path (nat_lt (length front) (2 ^ 32)) front rest (record { file = f; item = item_of p })
kind_lands k m e f p kind.AmbiguousImport front rest = tt
kind_lands k m e f p kind.UnresolvedVisibility front rest = tt
kind_lands k m e f p (kind.DuplicateDefinition name) front rest = tt
kind_lands k m e f p kind.UnconfiguredCode front rest = (refl, tt)

abbrev ast_if : Edition → FileId → ℕ → Bool → Option AstId
ast_if e f n b =
    option_map (λ id. record { file_id = hir.File (record { file = f; edition = e }); value = id })
    (if b then Some (record { 0 = n }) else None)

told_lands : (k : Crate) (e : Edition) (x : Diagnostic) (o : Option ModuleId) (b : Bool) (front rest : List CallPlace)
    → Lands (front ++ (calls_by x.kind x.file (item_of x.place) ++ rest)) (record { file = x.file; place = part_of x.kind x.place })
    (told_at k (length front) x o (ast_if e x.file (item_of x.place) b))
told_lands k e x None b front rest = tt
told_lands k e x (Some m) false front rest = tt
told_lands k e x (Some m) true front rest = kind_lands k m e x.file x.place x.kind front rest

pub places_come_back : PlacesComeBack
places_come_back c x front rest =
    told_lands c.krate c.edition x (module_of c x.file (item_of x.place)) (nat_lt (item_of x.place) (2 ^ 32)) front rest
