-- What is told of imports that mean nothing, and of those of ambiguous names.
use Rattle.std.specs.Prelude.{◌==◌, ◌||◌, ◌++◌, ℕ, Bool, false, List, [], ◌∷◌, Option, slice_get, if◌then◌else◌}
use Rattle.std.specs.List.{cons_option, find, flat_map}
use Rattle.std.specs.Option.{option_and_then, option_map, option_map_or}
use Rattle.def_diagnostics.specs.declared.diagnostic.Diagnostic.{Diagnostic}
use Rattle.def_diagnostics.specs.declared.diagnostic.DiagnosticKind.{DiagnosticKind}
use Rattle.def_diagnostics.specs.declared.diagnostic.DiagnosticKind.TheVariants as kind
use Rattle.def_diagnostics.specs.declared.diagnostic.Place.TheVariants.{UseTree}
use Rattle.crate_tables.specs.declared.item_place.UsePlace.{UsePlace}
use Rattle.dm_base.specs.declared.ids.UseId.{UseId}
use Rattle.dm_base.specs.declared.ids.UseTreeIdx.{UseTreeIdx}
use Rattle.dm_imports.specs.declared.meaning.Meaning.{Meaning}
use Rattle.dm_imports.specs.declared.named_import.NamedImport.{NamedImport}
use Rattle.dm_imports.specs.declared.rules.meanings.ImportMeanings.{ImportMeanings}

-- where a use is written
abbrev pub is_of : UseId → UsePlace → Bool
is_of use_ p = p.use_.0 == use_.0

abbrev pub told_in : DiagnosticKind → UseTreeIdx → UsePlace → Diagnostic
told_in k tree p = record { file = p.file; place = UseTree p.item tree; kind = k }

-- a use tree is told of where it is written, if the use is one of these
abbrev pub told_of : DiagnosticKind → List UsePlace → UseId → UseTreeIdx → Option Diagnostic
told_of k uses use_ tree = option_map (told_in k tree) (find (is_of use_) uses)

-- ---- Imports that mean nothing

-- the import at a place
abbrev pub of_place : List NamedImport → List UsePlace → ℕ → List Diagnostic
of_place is uses n =
    cons_option (option_and_then (λ (i : NamedImport). told_of kind.UnresolvedImport uses i.import.use_ i.import.idx) (slice_get is n)) []

-- those at some places, in their order
abbrev pub unresolved_imports : List NamedImport → List UsePlace → List ℕ → List Diagnostic
unresolved_imports is uses ns = flat_map (of_place is uses) ns

-- ---- Imports of ambiguous names

abbrev pub is_ambiguous : Option Meaning → Bool
is_ambiguous o = option_map_or (λ (x : Meaning). x.is_ambiguous) o false

abbrev pub are_ambiguous : ImportMeanings → Bool
are_ambiguous x = is_ambiguous x.types || is_ambiguous x.values || is_ambiguous x.macros

abbrev pub if_ambiguous : List UsePlace → ImportMeanings → NamedImport → List Diagnostic
if_ambiguous uses x i =
    if are_ambiguous x then cons_option (told_of kind.AmbiguousImport uses i.import.use_ i.import.idx) [] else []

-- those that bring an ambiguous name in some namespace, where this is what each of them brings
abbrev pub ambiguous_imports : List UsePlace → List ImportMeanings → List NamedImport → List Diagnostic
ambiguous_imports uses (x ∷ xs) (i ∷ is) = if_ambiguous uses x i ++ ambiguous_imports uses xs is
ambiguous_imports uses _ _ = []
