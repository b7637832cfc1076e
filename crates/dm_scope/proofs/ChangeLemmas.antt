-- The elements of a list changed, one after another.
use Rattle.std.proofs.Common.{◌≡◌, ◌<◌, ◌+◌, ℕ, zero, suc, List, [], ◌∷◌, ◌++◌, length, map, take, drop, slice_set, slice_index_or, refl, sym, ap, ◌∙◌, arith, add-one}

-- the elements before an index changed, and one more
module _ {X : Type 0} (f : X → X) (d : X) where
  one_more : (xs : List X) (i : ℕ) → i < length xs
      → slice_set (map f (take i xs) ++ drop i xs) i (f (slice_index_or (map f (take i xs) ++ drop i xs) i d)) ≡ map f (take (suc i) xs) ++ drop (suc i) xs
  one_more [] i h = absurd (omega arith)
  one_more (x ∷ xs) zero h = refl
  one_more (x ∷ xs) (suc i) h = let less : i < length xs = omega arith in ap (λ l. f x ∷ l) (one_more xs i less)

  pub changed_before : (xs ys : List X) (i : ℕ) → i < length xs → ys ≡ map f (take i xs) ++ drop i xs → slice_set ys i (f (slice_index_or ys i d)) ≡ map f (take (i + 1) xs) ++ drop (i + 1) xs
  changed_before xs ys i h e =
      (λ k. slice_set (e k) i (f (slice_index_or (e k) i d))) ∙ one_more xs i h ∙ ap (λ n. map f (take n xs) ++ drop n xs) (sym (add-one i))
