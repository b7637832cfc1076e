-- Threads of a list by their numbers: how many of those from a number on pass a test.
use Rattle.std.proofs.Common.{◌≡◌, ◌∙◌, ℕ, zero, suc, ◌+◌, ◌<◌, ◌≤◌, Bool, true, false, Some, List, [], ◌∷◌, drop, slice_get, refl, ap, arith, cond, count_by}
use Rattle.std.proofs.lemmas.List.Sums.{sum_by-cons}

pub get_drop : {X : Type 0} (n : ℕ) (xs : List X) (i : ℕ) → slice_get (drop n xs) i ≡ slice_get xs (n + i)
get_drop zero xs i = let e : i ≡ 0 + i = omega arith in ap (slice_get xs) e
get_drop (suc n) [] i = refl
get_drop (suc n) (x ∷ xs) i = let e : suc (n + i) ≡ suc n + i = omega arith in get_drop n xs i ∙ ap (slice_get (x ∷ xs)) e

abbrev pub once : Bool → ℕ
once b = cond b 1 0

count_cons : {X : Type 0} (p : X → Bool) (x : X) (xs : List X) → count_by p (x ∷ xs) ≡ once (p x) + count_by p xs
count_cons p x xs = sum_by-cons (λ y. cond (p y) 1 0) x xs

pub yes_is : (b : Bool) → b ≡ true → once b ≡ 1
yes_is true e = refl
yes_is false e = cc

pub no_is : (b : Bool) → b ≡ false → once b ≡ 0
no_is true e = cc
no_is false e = refl

-- one of a list that passes
pub record OneIn {X : Type 0} (p : X → Bool) (xs : List X) : Type 0 where
  pub at : ℕ
  pub here : X
  pub is : slice_get xs at ≡ Some here
  pub passes : p here ≡ true

-- two of a list that pass
pub record TwoIn {X : Type 0} (p : X → Bool) (xs : List X) : Type 0 where
  pub first : ℕ
  pub second : ℕ
  pub one : X
  pub other : X
  pub less : first < second
  pub first_is : slice_get xs first ≡ Some one
  pub second_is : slice_get xs second ≡ Some other
  pub first_passes : p one ≡ true
  pub second_passes : p other ≡ true

pub one_counted : {X : Type 0} (p : X → Bool) (xs : List X) (i : ℕ) (x : X) → slice_get xs i ≡ Some x → p x ≡ true → 1 ≤ count_by p xs
one_counted p [] i x h does = cc
one_counted p (y ∷ xs) zero x h does =
    let e : y ≡ x = cc in
    omega (arith, count_cons p y xs, yes_is (p y) (ap p e ∙ does))
one_counted p (y ∷ xs) (suc i) x h does = omega (arith, count_cons p y xs, one_counted p xs i x h does)

pub two_counted : {X : Type 0} (p : X → Bool) (xs : List X) (i j : ℕ) (x y : X) → i < j → slice_get xs i ≡ Some x → slice_get xs j ≡ Some y → p x ≡ true → p y ≡ true → 2 ≤ count_by p xs
two_counted p [] i j x y less at_i at_j does also = cc
two_counted p (z ∷ xs) i zero x y less at_i at_j does also = absurd (omega (arith, less))
two_counted p (z ∷ xs) zero (suc j) x y less at_i at_j does also =
    let e : z ≡ x = cc in
    omega (arith, count_cons p z xs, yes_is (p z) (ap p e ∙ does), one_counted p xs j y at_j also)
two_counted p (z ∷ xs) (suc i) (suc j) x y less at_i at_j does also = omega (arith, count_cons p z xs, two_counted p xs i j x y (omega (arith, less)) at_i at_j does also)

pub counted_one : {X : Type 0} (p : X → Bool) (xs : List X) → 1 ≤ count_by p xs → OneIn p xs
counted_one p [] h = absurd (omega (arith, h))
counted_one p (y ∷ xs) h = by (p y) refl (counted_one p xs)
  where
    by : (b : Bool) → p y ≡ b → (1 ≤ count_by p xs → OneIn p xs) → OneIn p (y ∷ xs)
    by true e f = record { at = 0; here = y; is = refl; passes = e }
    by false e f =
        let g = f (omega (arith, h, count_cons p y xs, no_is (p y) e)) in
        record { at = suc g.at; here = g.here; is = g.is; passes = g.passes }

pub counted_two : {X : Type 0} (p : X → Bool) (xs : List X) → 2 ≤ count_by p xs → TwoIn p xs
counted_two p [] h = absurd (omega (arith, h))
counted_two p (y ∷ xs) h = by (p y) refl (counted_two p xs)
  where
    by : (b : Bool) → p y ≡ b → (2 ≤ count_by p xs → TwoIn p xs) → TwoIn p (y ∷ xs)
    by true e f =
        let g = counted_one p xs (omega (arith, h, count_cons p y xs, yes_is (p y) e)) in
        record { first = 0; second = suc g.at; one = y; other = g.here; less = omega arith; first_is = refl; second_is = g.is; first_passes = e; second_passes = g.passes }
    by false e f =
        let g = f (omega (arith, h, count_cons p y xs, no_is (p y) e)) in
        record { first = suc g.first; second = suc g.second; one = g.one; other = g.other; less = omega (arith, g.less); first_is = g.first_is; second_is = g.second_is; first_passes = g.first_passes; second_passes = g.second_passes }
