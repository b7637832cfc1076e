-- What has its number between two, of a list in the order of numbers.
use Rattle.std.proofs.Common.{◌≡◌, ◌+◌, ◌-◌, ◌<◌, ◌≤◌, ℕ, zero, suc, Bool, true, false, List, [], ◌∷◌, length, get_or, take, drop, refl, ap, arith}
use Rattle.std.specs.Prelude.{filter, nat_le, nat_lt, max, ◌&&◌}
use Rattle.std.specs.List.Sorted.{IsPartitionPoint}

module _ {X : Type 0} (p : X → Bool) where
  none_of : (xs : List X) → ((k : ℕ) (d : X) → k < length xs → p (get_or xs k d) ≡ false) → filter p xs ≡ []
  none_of [] h = refl
  none_of (x ∷ xs) h = rw (h 0 x (omega arith)) (none_of xs (λ k d low. h (suc k) d (omega arith)))

  -- all that passes stands in a row
  pub filter_segment : (xs : List X) (s n : ℕ) → ((k : ℕ) (d : X) → k < s → k < length xs → p (get_or xs k d) ≡ false)
      → ((k : ℕ) (d : X) → s ≤ k → k < s + n → k < length xs → p (get_or xs k d) ≡ true)
      → ((k : ℕ) (d : X) → s + n ≤ k → k < length xs → p (get_or xs k d) ≡ false)
      → filter p xs ≡ take n (drop s xs)
  filter_segment [] zero zero low in_it high = refl
  filter_segment [] zero (suc n) low in_it high = refl
  filter_segment [] (suc s) zero low in_it high = refl
  filter_segment [] (suc s) (suc n) low in_it high = refl
  filter_segment (x ∷ xs) zero zero low in_it high = none_of (x ∷ xs) (λ k d there. high k d (omega arith) there)
  filter_segment (x ∷ xs) zero (suc n) low in_it high =
      rw (in_it 0 x (omega arith) (omega arith) (omega arith))
      (ap (λ ys. x ∷ ys) (filter_segment xs zero n (λ k d a. absurd (omega arith)) (λ k d a b there. in_it (suc k) d (omega arith) (omega arith) (omega arith)) (λ k d a there. high (suc k) d (omega arith) (omega arith))))
  filter_segment (x ∷ xs) (suc s) n low in_it high =
      rw (low 0 x (omega arith) (omega arith))
      (filter_segment xs s n (λ k d a there. low (suc k) d (omega arith) (omega arith)) (λ k d a b there. in_it (suc k) d (omega arith) (omega arith) (omega arith)) (λ k d a there. high (suc k) d (omega arith) (omega arith)))

-- between what is at most one number, and what is at most another
pub filter_between : {X : Type 0} (n : X → ℕ) (low high : ℕ) (xs : List X) (s e : ℕ)
    → IsPartitionPoint (λ (x : X). nat_le (n x) low ≡ true) (λ (x : X). nat_le (n x) low ≡ false) xs s
    → IsPartitionPoint (λ (x : X). nat_le (n x) high ≡ true) (λ (x : X). nat_le (n x) high ≡ false) xs e
    → filter (λ x. nat_lt low (n x) && nat_le (n x) high) xs ≡ take (max e s - s) (drop s xs)
filter_between {X} n low high xs s e first behind =
    filter_segment (λ x. nat_lt low (n x) && nat_le (n x) high) xs s (max e s - s)
    (λ k d before there. not_low (n (get_or xs k d)) (first.0 k d (omega arith) before))
    (λ k d from before there. inside (n (get_or xs k d)) (first.1 k d from there) (behind.0 k d (omega arith) (omega arith)))
    (λ k d from there. not_high (n (get_or xs k d)) (behind.1 k d (omega arith) there))
  where
    not_low : (m : ℕ) → nat_le m low ≡ true → (nat_lt low m && nat_le m high) ≡ false
    not_low m h = grind arith

    not_high : (m : ℕ) → nat_le m high ≡ false → (nat_lt low m && nat_le m high) ≡ false
    not_high m h = grind arith

    inside : (m : ℕ) → nat_le m low ≡ false → nat_le m high ≡ true → (nat_lt low m && nat_le m high) ≡ true
    inside m h k = grind arith
