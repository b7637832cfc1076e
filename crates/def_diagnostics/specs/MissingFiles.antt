-- The files that a loader has yet to read.
use Rattle.std.specs.Prelude.{ℕ, Bool, List, [], is_some, if◌then◌else◌}
use Rattle.std.specs.List.{flat_map, list_any}
use Rattle.def_diagnostics.specs.CandidatePaths.{paths_of}
use Rattle.crate_items.specs.DeclaredModules.{Fault}
use Rattle.crate_items.specs.Files.{SourceFile, file_at}
use Rattle.crate_items.specs.ModDirs.{File}
use Rattle.crate_items.specs.Modules.{Listing}

-- a candidate that a table of files has
abbrev pub is_there : List SourceFile → File → Bool
is_there files c = is_some (file_at files c.path)

-- a module whose file is in no table lacks that file: it may be at any of its candidates
abbrev pub missing_of : List SourceFile → Fault → List (List ℕ)
missing_of files f = if list_any (is_there files) f.candidates then [] else paths_of f.candidates

-- those of all modules, in the order of their declarations
abbrev pub missing_files : List SourceFile → Listing → List (List ℕ)
missing_files files l = flat_map (missing_of files) l.faults
