-- Paths as bytes with slashes. The path of a folder is empty or ends in a slash.
use Rattle.std.specs.Prelude.{◌==◌, ◌-◌, ◌++◌, ◌||◌, ℕ, Bool, not, List, drop, take, length, nat_eq, codes, fold, if◌then◌else◌}
use Rattle.std.specs.List.{slice_split, starts_with, suffix_len}
use Rattle.std.specs.Str.{bytes_eq}

abbrev pub is_slash : ℕ → Bool
is_slash b = b == 47

-- how many bytes there are through the last slash
abbrev pub folder_len : List ℕ → ℕ
folder_len path = length path - suffix_len (λ b. not (is_slash b)) path

-- the folder that a file is in: its path through the last slash
abbrev pub folder_of : List ℕ → List ℕ
folder_of path = take (folder_len path) path

-- the file's name: what stands behind the last slash
abbrev pub file_name : List ℕ → List ℕ
file_name path = drop (folder_len path) path

-- a path that begins at the root, and not at some folder
abbrev pub is_absolute : List ℕ → Bool
is_absolute path = starts_with nat_eq path (codes "/")

abbrev pub without_slash : List ℕ → List ℕ
without_slash folder = take (length folder - 1) folder

-- the folder that a folder is in: without its last name. The root is in itself, and where no name is left, one more
-- `..` tells it
unfoldable pub above : List ℕ → List ℕ
above folder =
    if bytes_eq folder (codes "/") then folder
    else if (length folder == 0) || bytes_eq (file_name (without_slash folder)) (codes "..") then folder ++ codes "../"
    else folder_of (without_slash folder)

-- where a component of a path leads from a folder: `.` and nothing stay, `..` goes up, a name goes down
unfoldable pub entered : List ℕ → List ℕ → List ℕ
entered folder component =
    if (length component == 0) || bytes_eq component (codes ".") then folder
    else if bytes_eq component (codes "..") then above folder
    else folder ++ component ++ codes "/"

-- where a path leads: where its components do, one after another
abbrev pub entered_all : List ℕ → List ℕ → List ℕ
entered_all folder path = fold entered folder (slice_split is_slash path)
