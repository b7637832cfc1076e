-- A list grows by one element.
use Rattle.std.proofs.Common.{◌≡◌, ◌+◌, ◌++◌, ℕ, List, [], ◌∷◌, arith, length, length-append}

pub one-more : {X : Type 0} (xs : List X) (x : X) (n : ℕ) → length xs ≡ n → length (xs ++ x ∷ []) ≡ n + 1
one-more xs x n l = omega (arith, length-append xs (x ∷ []), l)
