-- Maps from keys to lists.
use Rattle.std.specs.Prelude.{Bool, List, [], ◌∷◌, ◌++◌, map, if◌then◌else◌}
use Rattle.smallvec.specs.SmallVec.{SmallVec}

-- the list of each key, of the entries of a table
abbrev pub lists_of : {K X : Type 0} → List (K × SmallVec X) → List (K × List X)
lists_of es = map (λ e. (e.0, e.1.items)) es

-- the lists with one element more: at the end of the key's list, or alone in a new list of a new key, which goes last
abbrev pub add_to_list : {K X : Type 0} → (K → K → Bool) → List (K × List X) → K → X → List (K × List X)
add_to_list eq [] k x = (k, x ∷ []) ∷ []
add_to_list eq (e ∷ es) k x = if eq k e.0 then (e.0, e.1 ++ x ∷ []) ∷ es else e ∷ add_to_list eq es k x
