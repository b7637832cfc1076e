-- Names, as contracts see them.
use Rattle.std.specs.Prelude.{ℕ, List, Bool, Option}
use Rattle.std.specs.Hash as fed
use Rattle.std.specs.Hash.{HashWrites}
use Rattle.std.specs.Hash.FoldHasher.{finish, initial, write}
use Rattle.std.specs.Str.{bytes_eq}
use Rattle.std.specs.Map.{lookup}

-- a name is its bytes
abbrev pub Name : Type 0
Name = List ℕ

abbrev pub same_name : Name → Name → Bool
same_name = bytes_eq

-- the entry under a name in a list of entries
abbrev pub find_name : {A : Type 0} → Name → List (Name × A) → Option A
find_name n es = lookup (same_name n) es

-- the hash that a text carries: what the library's hasher makes of its bytes
abbrev pub digest : List ℕ → ℕ
digest bytes = finish (write initial bytes)

-- what a text feeds a hasher: its hash
abbrev pub fed_text : List ℕ → HashWrites
fed_text bytes = fed.u64 (digest bytes)
