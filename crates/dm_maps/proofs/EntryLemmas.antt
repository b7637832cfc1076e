-- Lists and entries that grow, or are written at a place.
use Rattle.std.proofs.Common.{◌≡◌, ◌-◌, ℕ, zero, suc, List, [], ◌∷◌, ◌++◌, Some, length, take, set, slice_get, ◌⊎◌, inl, inr, sym, ap, ◌∙◌, refl, arith, length-append}
use Rattle.std.proofs.Math.Seq.{take-append_seam}
use Rattle.std.proofs.lemmas.List.{set-get_or}
use Rattle.std.proofs.lemmas.Option.{get_or_from_slice_get}

-- a list less the one that was added
pub take-push : {X : Type 0} (xs : List X) (x : X) → take (length (xs ++ x ∷ []) - 1) (xs ++ x ∷ []) ≡ xs
take-push xs x =
    let n : length (xs ++ x ∷ []) - 1 ≡ length xs = omega (arith, length-append xs (x ∷ [])) in
    ap (λ i. take i (xs ++ x ∷ [])) n ∙ take-append_seam xs (x ∷ [])

-- what stands at a place, written there again, changes nothing
pub set-own : {X : Type 0} (xs : List X) (i : ℕ) (x : X) → slice_get xs i ≡ Some x → set xs i x ≡ xs
set-own xs i x h = ap (set xs i) (sym (get_or_from_slice_get xs i x x h)) ∙ set-get_or xs i x

-- an element of a list with one more at its end is one of the list, or the new one
pub get-push : {X : Type 0} (xs : List X) (x : X) (i : ℕ) (y : X) → slice_get (xs ++ x ∷ []) i ≡ Some y → (slice_get xs i ≡ Some y) ⊎ ((i ≡ length xs) × (x ≡ y))
get-push [] x zero y h = inr (refl, cc)
get-push [] x (suc i) y h = cc
get-push (z ∷ zs) x zero y h = inl h
get-push (z ∷ zs) x (suc i) y h = elim (get-push zs x i y h) [ inl e ↦ inl e | inr e ↦ inr (ap suc e.0, e.1) ]

-- the elements of a list stay where more come after them
pub get-append : {X : Type 0} (xs ys : List X) (i : ℕ) (y : X) → slice_get xs i ≡ Some y → slice_get (xs ++ ys) i ≡ Some y
get-append [] ys i y h = cc
get-append (x ∷ xs) ys zero y h = h
get-append (x ∷ xs) ys (suc i) y h = get-append xs ys i y h

-- the one that was added stands at the end
pub get-last : {X : Type 0} (xs : List X) (x : X) → slice_get (xs ++ x ∷ []) (length xs) ≡ Some x
get-last [] x = refl
get-last (y ∷ ys) x = get-last ys x

-- what was written stands at its place
pub get-set_same : {X : Type 0} (xs : List X) (i : ℕ) (x y : X) → slice_get xs i ≡ Some x → slice_get (set xs i y) i ≡ Some y
get-set_same [] i x y h = cc
get-set_same (z ∷ zs) zero x y h = refl
get-set_same (z ∷ zs) (suc i) x y h = get-set_same zs i x y h

-- an element after a write is the one that was there, or at the place of the write the one that was written
pub at-set : {X : Type 0} (xs : List X) (i j : ℕ) (x y : X) → slice_get xs i ≡ Some x
    → (slice_get (set xs i y) j ≡ slice_get xs j) ⊎ ((j ≡ i) × (slice_get xs j ≡ Some x) × (slice_get (set xs i y) j ≡ Some y))
at-set [] i j x y h = cc
at-set (z ∷ zs) zero zero x y h = inr (refl, h, refl)
at-set (z ∷ zs) zero (suc j) x y h = inl refl
at-set (z ∷ zs) (suc i) zero x y h = inl refl
at-set (z ∷ zs) (suc i) (suc j) x y h = elim (at-set zs i j x y h) [ inl e ↦ inl e | inr e ↦ inr (ap suc e.0, e.1, e.2) ]
