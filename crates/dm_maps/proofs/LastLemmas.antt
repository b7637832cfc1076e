-- The last of a list, by its place.
use Rattle.std.proofs.Common.{◌≡◌, ◌-◌, suc, List, [], ◌∷◌, length, slice_get, refl, ap, ◌∙◌, arith}
use Rattle.dm_scope.specs.Pushes.{last_of}

pub last_of-place : {A : Type 0} (xs : List A) → slice_get xs (length xs - 1) ≡ last_of xs
last_of-place [] = refl
last_of-place (x ∷ []) = let e : suc 0 - 1 ≡ 0 = omega arith in ap (slice_get (x ∷ [])) e
last_of-place (x ∷ y ∷ xs) =
    let e : suc (suc (length xs)) - 1 ≡ suc (suc (length xs) - 1) = omega arith in
    ap (slice_get (x ∷ y ∷ xs)) e ∙ last_of-place (y ∷ xs)
