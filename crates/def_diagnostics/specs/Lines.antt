-- Messages: what is told of a byte of a file, and the line that says it.
use Rattle.std.specs.Prelude.{◌≡◌, ◌++◌, ℕ, List, codes, length, map, min, nat_lt, take, if◌then◌else◌}
use Rattle.std.specs.Fmt.{decimal}
use Rattle.std.specs.List.{flat_map}
use Rattle.std.specs.List.Sorted.{IsPermutation, IsSortedByKey, IsStableByKey}
use Rattle.std.specs.Ordering.{nat_cmp, ordering_then}
use Rattle.std.specs.declared.cmp.Ordering.{Ordering}
use Rattle.def_diagnostics.specs.Offsets.{place_offset}
use Rattle.def_diagnostics.specs.Texts.{as_text, kind_text}
use Rattle.def_diagnostics.specs.declared.diagnostic.Diagnostic.{Diagnostic}
use Rattle.crate_items.specs.Files.{SourceFile, path_of, text_of}
use Rattle.crate_items.specs.LineIndexes.{line_col}
use Rattle.crate_items.specs.Modules.{Listing}
use Rattle.crate_items.specs.Sources.{source_at}
use Rattle.crate_items.specs.declared.files.line_index.LineCol.{LineCol}
use Rattle.dm_base.specs.declared.ids.FileId.{FileId}

-- a text, and the byte of a file that it is about
pub record Told : Type 0 where
  pub file : FileId
  pub offset : ℕ
  pub text : List ℕ

-- a diagnostic of a crate as a message
abbrev pub message_of : Listing → Diagnostic → Told
message_of l d = record {
  file = d.file;
  offset = place_offset (source_at l.sources d.file) d.place;
  text = kind_text d.kind;
}

-- behind some messages stand those of the first of these diagnostics
abbrev pub AddsSome : Listing → List Told → List Diagnostic → List Told → Type 0
AddsSome l old ds new = (k : ℕ) × (new ≡ old ++ map (message_of l) (take k ds))

abbrev pub line_col_in : List ℕ → ℕ → LineCol
line_col_in text offset = line_col text (min offset (length text))

abbrev pub line_at : List ℕ → LineCol → List ℕ → List ℕ
line_at path at told =
    as_text path ++ codes ":" ++ decimal at.line ++ codes ":" ++ decimal at.col ++ codes ": " ++ told ++ codes "\n"

abbrev pub line_in : List ℕ → List ℕ → Told → List ℕ
line_in path text m = line_at path (line_col_in text m.offset) m.text

abbrev pub bare_line : Told → List ℕ
bare_line m = m.text ++ codes "\n"

-- the path of the file, the line, the column, and the text
abbrev pub line_of : List SourceFile → Told → List ℕ
line_of files m =
    if nat_lt m.file.0 (length files) then line_in (path_of files m.file) (text_of files m.file) m else bare_line m

-- a file that is seen: its path, and its text
pub record SeenFile : Type 0 where
  pub file : FileId
  pub path : List ℕ
  pub text : List ℕ

abbrev pub seen_in : List SourceFile → FileId → SeenFile
seen_in files f = record { file = f; path = path_of files f; text = text_of files f }

-- it is as a table has it
abbrev pub IsSeenIn : List SourceFile → SeenFile → Type 0
IsSeenIn files s = s ≡ seen_in files s.file

-- the order of messages: by their files, and in these by their bytes
abbrev pub place_of : Told → ℕ × ℕ
place_of m = (m.file.0, m.offset)

abbrev pub place_cmp : ℕ × ℕ → ℕ × ℕ → Ordering
place_cmp a b = ordering_then (nat_cmp a.0 b.0) (nat_cmp a.1 b.1)

pub record IsInOrder (messages sorted : List Told) : Type 0 where
  pub each_once : IsPermutation messages sorted
  pub in_order : IsSortedByKey place_of place_cmp sorted
  pub stable : IsStableByKey place_of place_cmp messages sorted

-- the lines of messages, in that order
abbrev pub AreLinesOf : List SourceFile → List Told → List ℕ → Type 0
AreLinesOf files messages text =
    (sorted : List Told) × IsInOrder messages sorted × (text ≡ flat_map (line_of files) sorted)
