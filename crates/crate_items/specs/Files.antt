-- Files by their numbers: a path and a text for each.
use Rattle.std.specs.Prelude.{ℕ, Bool, true, false, List, [], Option, Some, None, map, position, slice_get, option_map}
use Rattle.std.specs.Global.{Vec}
use Rattle.std.specs.Str.{bytes_eq}
use Rattle.crate_items.specs.declared.files.file_table.AddFileError.{AddFileError}
use Rattle.crate_items.specs.declared.files.file_table.AddFileError.TheVariants.{PathExists, OutOfMemory}
use Rattle.dm_base.specs.declared.ids.FileId.{FileId}

-- a file that was read
pub record SourceFile : Type 0 where
  pub path : List ℕ
  pub text : List ℕ

-- the files whose paths and texts are these pairs
abbrev pub files_of : List (Vec ℕ × Vec ℕ) → List SourceFile
files_of entries = map (λ e. record { path = e.0.items; text = e.1.items }) entries

-- a file's number is its place in the list
abbrev pub number_at : List SourceFile → List ℕ → Option ℕ
number_at files path = position (λ f. bytes_eq path f.path) files

abbrev pub id_of : ℕ → FileId
id_of n = record { 0 = n }

-- the file at a path
abbrev pub file_at : List SourceFile → List ℕ → Option FileId
file_at files path = option_map id_of (number_at files path)

-- a path at which there is a file already
abbrev pub is_taken : AddFileError → Bool
is_taken PathExists = true
is_taken OutOfMemory = false

abbrev pub path_or_nothing : Option SourceFile → List ℕ
path_or_nothing None = []
path_or_nothing (Some f) = f.path

-- the path of a file; nothing, where there is no such file
abbrev pub path_of : List SourceFile → FileId → List ℕ
path_of files id = path_or_nothing (slice_get files id.0)

abbrev pub text_or_nothing : Option SourceFile → List ℕ
text_or_nothing None = []
text_or_nothing (Some f) = f.text

-- the text of a file; nothing, where there is no such file
abbrev pub text_of : List SourceFile → FileId → List ℕ
text_of files id = text_or_nothing (slice_get files id.0)
