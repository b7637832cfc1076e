-- Entries of a table whose keys are put last and taken off again.
use Rattle.std.specs.Prelude.{◌-◌, Bool, List, [], ◌∷◌, if◌then◌else◌, length, take, is_some, not}
use Rattle.std.specs.Map.{lookup}

module _ {K V : Type 0} (eq : K → K → Bool) where
  -- the entries with a key that was not there put last; a key that is there keeps its value
  abbrev pub add_entry : List (K × V) → K → V → List (K × V)
  add_entry [] k v = (k, v) ∷ []
  add_entry (e ∷ es) k v = if eq k e.0 then e ∷ es else e ∷ add_entry es k v

  -- whether the key is not there yet
  abbrev pub is_new : List (K × V) → K → Bool
  is_new es k = not (is_some (lookup (eq k) es))

-- the entries without the last, where it is new
abbrev pub without_new : {X : Type 0} → Bool → List X → List X
without_new new es = if new then take (length es - 1) es else es
