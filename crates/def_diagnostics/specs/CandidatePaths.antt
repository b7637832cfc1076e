-- The paths at which the file of a module was looked for.
use Rattle.std.specs.Prelude.{ℕ, List, map}
use Rattle.std.specs.Global.{Vec}
use Rattle.crate_items.specs.ModDirs.{File}

-- the bytes of a path
abbrev pub bytes_of : Vec ℕ → List ℕ
bytes_of v = v.items

-- the paths of candidates, in order
abbrev pub path_of : File → List ℕ
path_of c = c.path

abbrev pub paths_of : List File → List (List ℕ)
paths_of cs = map path_of cs
