-- Where the files of modules are looked for.
use Rattle.std.specs.Prelude.{◌++◌, ℕ, Bool, true, false, List, [], ◌∷◌, Option, Some, None, drop, nat_eq, codes, if◌then◌else◌}
use Rattle.std.specs.List.{starts_with, ends_with}
use Rattle.dm_base.specs.Names.{Name}
use Rattle.crate_items.specs.Paths.{entered_all, file_name, folder_of, is_absolute}

-- where the files of a module's children are looked for: a folder, and in it the folder of the module's own name, which
-- a directory owner does not have. The path of each is empty or ends in a slash
pub record Dir : Type 0 where
  pub folder : List ℕ
  pub own : List ℕ

-- a directory owner is the crate's root, a `mod.rs` or what a `#[path]` names: the files of its children stand beside it
abbrev pub of_owner : List ℕ → Dir
of_owner path = record { folder = folder_of path; own = [] }

-- a raw name is the name behind its `r#`
abbrev pub bare : Name → List ℕ
bare name = if starts_with nat_eq name (codes "r#") then drop 2 name else name

-- the children of another file have their files in a folder of its module's name beside it
abbrev pub of_other : List ℕ → Name → Dir
of_other path name = record { folder = folder_of path; own = bare name ++ codes "/" }

-- the file that a `#[path]` names: an absolute path as it is, and another one from the folder on
abbrev pub attr_file : Dir → List ℕ → List ℕ
attr_file d path =
    if is_absolute path then path else entered_all d.folder (folder_of path) ++ file_name path

-- the folder that a `#[path]` of an inline module names
abbrev pub as_folder : List ℕ → List ℕ
as_folder path = if ends_with nat_eq path (codes "/") then path else path ++ codes "/"

abbrev pub attr_folder : Dir → List ℕ → List ℕ
attr_folder d path = if is_absolute path then as_folder path else entered_all d.folder path

-- what stands under a name in the folder of the children
abbrev pub child : Dir → Name → List ℕ → List ℕ
child d name ending = d.folder ++ d.own ++ bare name ++ ending

-- a path at which the file of a module may be, and whether the file is a directory owner
pub record File : Type 0 where
  pub path : List ℕ
  pub is_owner : Bool

-- where the file of `mod name;` is looked for, with its `#[path]` if it has one
abbrev pub candidates : Dir → Name → Option (List ℕ) → List File
candidates d name None =
    record { path = child d name (codes ".rs"); is_owner = false }
    ∷ record { path = child d name (codes "/mod.rs"); is_owner = true } ∷ []
candidates d name (Some path) = record { path = attr_file d path; is_owner = true } ∷ []

-- where the children of such a file have theirs
abbrev pub of_file : File → Name → Dir
of_file f name = if f.is_owner then of_owner f.path else of_other f.path name

-- where the children of `mod name { .. }` have theirs
abbrev pub inline : Dir → Name → Option (List ℕ) → Dir
inline d name None = record { folder = child d name (codes "/"); own = [] }
inline d name (Some path) = record { folder = attr_folder d path; own = [] }
