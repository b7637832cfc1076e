-- Where the `macro_use` preludes of crates have their macros from: the roots of other crates.
use Rattle.std.specs.Prelude.{◌+◌, ◌++◌, ◌==◌, ℕ, List, [], ◌∷◌, Option, Some, None, nat_lt, slice_get, if◌then◌else◌}
use Rattle.crate_items.specs.DeclaredMacros.{Used, used}
use Rattle.crate_items.specs.ItemAttributes.{kinds_from}
use Rattle.crate_items.specs.CrateGraphs.{Data, Graph}
use Rattle.crate_items.specs.Files.{SourceFile, text_of}
use Rattle.crate_items.specs.ModuleVisibilities.{lexemes_known}
use Rattle.crate_items.specs.Modules.{Listing}
use Rattle.crate_items.specs.Sources.{source_at}
use Rattle.crate_tables.specs.CrateFillings.{attributes_of}
use Rattle.crate_tables.specs.CrateRoots.{root_id}
use Rattle.crate_tables.specs.StandardPreludes.{library}
use Rattle.crate_tables.specs.declared.extern_crates.ExternCrateRow.{ExternCrateRow}
use Rattle.dm_collector.specs.declared.macro_uses.MacroSource.{MacroSource}
use Rattle.dm_base.specs.declared.ids.Crate.{Crate}
use Rattle.dm_base.specs.declared.ids.ExternCrateId.{ExternCrateId}
use Rattle.dm_base.specs.declared.ids.FileId.{FileId}
use Rattle.dm_base.specs.declared.ids.ModuleId.{ModuleId}

-- a crate, and the roots that it has macros from, in order: of two that bring one name the later counts
pub record Uses : Type 0 where
  pub krate : Crate
  pub sources : List MacroSource

-- ---- The library

-- all macros of another crate, which no item brings
abbrev pub of_library : Crate → Option Crate → List MacroSource
of_library k None = []
of_library k (Some l) =
    if l.0 == k.0 then [] else record { root = root_id l; macros = None; brought_by = None } ∷ []

-- ---- Extern crates

-- the macros that the attributes before the item of a number in a file name
abbrev pub macro_use_at : List SourceFile → Listing → FileId → ℕ → Used
macro_use_at files l f n = used (text_of files f) (lexemes_known (source_at l.sources f)) (kinds_from (source_at l.sources f) n)

-- the extern crate of a number
abbrev pub extern_id : ℕ → Option ExternCrateId
extern_id n = if nat_lt n 4294967296 then Some (record { 0 = n }) else None

-- the macros that the attributes of an extern crate name, of the crate that it links, unless that is the crate itself
abbrev pub of_root : List SourceFile → Listing → ℕ → ExternCrateRow → Option ModuleId → List MacroSource
of_root files l n r None = []
of_root files l n r (Some m) =
    if m.0 == r.home.0 then []
    else record { root = m; macros = Some (macro_use_at files l r.file r.item); brought_by = extern_id n } ∷ []

-- an extern crate counts that stands in the root of the crate
abbrev pub of_row : List SourceFile → Listing → Crate → ℕ → ExternCrateRow → List MacroSource
of_row files l k n r = if r.home.0 == k.0 then of_root files l n r r.root else []

-- of some extern crates, in order, the first of which has this number
abbrev pub of_rows : List SourceFile → Listing → Crate → ℕ → List ExternCrateRow → List MacroSource
of_rows files l k n [] = []
of_rows files l k n (r ∷ rs) = of_row files l k n r ++ of_rows files l k (n + 1) rs

-- ---- All crates

abbrev pub library_of : List SourceFile → Data → Listing → Option Crate
library_of files d l = library (attributes_of files d l) d.dependencies

-- A crate has macros from its library, `std` or `core`, and then from its extern crates.
abbrev pub sources_of : List SourceFile → List ExternCrateRow → Crate → Data → Listing → List MacroSource
sources_of files rows k d l = of_library k (library_of files d l) ++ of_rows files l k 0 rows

abbrev pub sources_if : List SourceFile → List ExternCrateRow → Crate → Data → Option Listing → List MacroSource
sources_if files rows k d None = []
sources_if files rows k d (Some l) = sources_of files rows k d l

abbrev pub uses_of : List SourceFile → List Listing → List ExternCrateRow → Crate → Data → Uses
uses_of files ls rows k d = record { krate = k; sources = sources_if files rows k d (slice_get ls k.0) }

-- those of some crates, the first of which has this number
abbrev pub macro_uses : List SourceFile → List Listing → List ExternCrateRow → ℕ → Graph → List Uses
macro_uses files ls rows n [] = []
macro_uses files ls rows n (d ∷ ds) = uses_of files ls rows (record { 0 = n }) d ∷ macro_uses files ls rows (n + 1) ds
