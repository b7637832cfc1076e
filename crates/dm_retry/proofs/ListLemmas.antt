-- Lists of which one element is changed.
use Rattle.std.proofs.Common.{◌≡◌, ◌⊎◌, inl, inr, ℕ, zero, suc, List, [], ◌∷◌, Some, slice_get, slice_set, ap, refl, sym}

-- the elements of a list in which y was put at place i: y there, and the old ones elsewhere
pub get-put : {X : Type 0} (xs : List X) (i j : ℕ) (y z : X) → slice_get (slice_set xs i y) j ≡ Some z → ((j ≡ i) × (z ≡ y)) ⊎ (slice_get xs j ≡ Some z)
get-put [] i j y z is = inr is
get-put (x ∷ xs) zero zero y z is = let same : y ≡ z = cc in inl (refl, sym same)
get-put (x ∷ xs) zero (suc j) y z is = inr is
get-put (x ∷ xs) (suc i) zero y z is = inr is
get-put {X} (x ∷ xs) (suc i) (suc j) y z is = later (get-put xs i j y z is)
  where
    later : ((j ≡ i) × (z ≡ y)) ⊎ (slice_get xs j ≡ Some z) → ((suc j ≡ suc i) × (z ≡ y)) ⊎ (slice_get xs j ≡ Some z)
    later (inl h) = inl (ap suc h.0, h.1)
    later (inr h) = inr h

-- the element that was put at a place of the list, and a second one put there
pub get-put_here : {X : Type 0} (xs : List X) (i : ℕ) (x y : X) → slice_get xs i ≡ Some x → slice_get (slice_set xs i y) i ≡ Some y
get-put_here [] i x y is = cc
get-put_here (z ∷ xs) zero x y is = refl
get-put_here (z ∷ xs) (suc i) x y is = get-put_here xs i x y is

pub put-put : {X : Type 0} (xs : List X) (i : ℕ) (y z : X) → slice_set (slice_set xs i y) i z ≡ slice_set xs i z
put-put [] i y z = refl
put-put (x ∷ xs) zero y z = refl
put-put (x ∷ xs) (suc i) y z = ap (λ l. x ∷ l) (put-put xs i y z)
