-- A loop over a list takes the next element.
use Rattle.std.proofs.Common.{◌≡◌, ◌+◌, ◌<◌, ◌∙◌, ℕ, suc, List, ◌∷◌, add-one, ap, drop, drop-cons, get_or, length, subst, sym}

pub next-of : {X : Type 0} (xs : List X) (i : ℕ) (x : X) → i < length xs → x ≡ get_or xs i x → drop i xs ≡ x ∷ drop (i + 1) xs
next-of xs i x l is = drop-cons xs i x l ∙ ap (λ y. y ∷ drop (suc i) xs) (sym is) ∙ ap (λ n. x ∷ drop n xs) (sym (add-one i))

-- the same where the loop goes over a list that is that one
pub next-in : {X : Type 0} (xs ys : List X) (i : ℕ) (x : X) → ys ≡ xs → i < length ys → x ≡ get_or ys i x → drop i xs ≡ x ∷ drop (i + 1) xs
next-in {X} xs ys i x same l is = subst (λ (zs : List X). drop i zs ≡ x ∷ drop (i + 1) zs) same (next-of ys i x l is)

-- the same of elements that are copied
pub next-copied : {X : Type 0} (xs : List X) (i : ℕ) (d : X) → i < length xs → drop i xs ≡ get_or xs i d ∷ drop (i + 1) xs
next-copied xs i d l = drop-cons xs i d l ∙ ap (λ n. get_or xs i d ∷ drop n xs) (sym (add-one i))
