-- What goes on as long as it can.
use Rattle.std.proofs.Common.{◌≡◌, ◌+◌, ◌++◌, ℕ, suc, Bool, true, false, List, [], ◌∷◌, length, take, drop, refl, arith, cond, take-append-drop}
use Rattle.std.specs.Prelude.{◌&&◌, not}
use Rattle.std.specs.List.{list_all, prefix_len}
use Rattle.item_tree.specs.Shapes.{begins, is_longest_run}
use Rattle.item_tree.specs.Characters.{are_all, chars_len}
use Rattle.item_tree.specs.Characters as chars
use Rattle.item_tree.specs.Numbers.{takes, after, is_number, number_len}
use Rattle.item_tree.specs.declared.items.bodies.NumberPart.{NumberPart}

one_more : (n : ℕ) → 1 + n ≡ suc n
one_more n = omega arith

not_true : (b : Bool) → not b ≡ true → b ≡ false
not_true true e = cc
not_true false e = refl

-- the bytes in front that pass p are a longest run
pub longest_run : (p : ℕ → Bool) (xs : List ℕ) → is_longest_run p (take (prefix_len p xs) xs) (drop (prefix_len p xs) xs) ≡ true
longest_run p [] = refl
longest_run p (x ∷ xs) = by (p x) refl (longest_run p xs)
  where
    by : (b : Bool) → p x ≡ b → is_longest_run p (take (prefix_len p xs) xs) (drop (prefix_len p xs) xs) ≡ true
        → is_longest_run p (take (cond b (1 + prefix_len p xs) 0) (x ∷ xs)) (drop (cond b (1 + prefix_len p xs) 0) (x ∷ xs)) ≡ true
    by true passes run = rw (one_more (prefix_len p xs), passes) run
    by false fails run = rw fails refl

-- a longest run in front of a text is all that passes in front
pub run_len : (p : ℕ → Bool) (xs ys : List ℕ) → is_longest_run p xs ys ≡ true → prefix_len p (xs ++ ys) ≡ length xs
run_len p [] [] e = refl
run_len p [] (y ∷ ys) e = rw (not_true (p y) e) refl
run_len p (x ∷ xs) ys e = by (p x) e (run_len p xs ys)
  where
    by : (b : Bool) → ((b && list_all p xs) && not (begins p ys)) ≡ true → (is_longest_run p xs ys ≡ true → prefix_len p (xs ++ ys) ≡ length xs)
        → cond b (1 + prefix_len p (xs ++ ys)) 0 ≡ suc (length xs)
    by true e step = omega (arith, step e)
    by false e step = cc

-- the bytes in front that go on characters which pass p are all that do
pub all_chars : (p : ℕ → Bool) (xs : List ℕ) → are_all p (take (chars_len p xs) xs) (drop (chars_len p xs) xs) ≡ true
all_chars p [] = refl
all_chars p (x ∷ xs) = by (chars.goes_on p x xs) refl (all_chars p xs)
  where
    by : (b : Bool) → chars.goes_on p x xs ≡ b → are_all p (take (chars_len p xs) xs) (drop (chars_len p xs) xs) ≡ true
        → are_all p (take (cond b (1 + chars_len p xs) 0) (x ∷ xs)) (drop (cond b (1 + chars_len p xs) 0) (x ∷ xs)) ≡ true
    by true goes rest = rw (one_more (chars_len p xs), take-append-drop (chars_len p xs) xs, goes) rest
    by false stops rest = rw stops refl

-- and no other number of them is
pub chars_are : (p : ℕ → Bool) (xs ys : List ℕ) → are_all p xs ys ≡ true → chars_len p (xs ++ ys) ≡ length xs
chars_are p [] [] e = refl
chars_are p [] (y ∷ ys) e = rw (not_true (chars.goes_on p y ys) e) refl
chars_are p (x ∷ xs) ys e = by (chars.goes_on p x (xs ++ ys)) e (chars_are p xs ys)
  where
    by : (b : Bool) → (b && are_all p xs ys) ≡ true → (are_all p xs ys ≡ true → chars_len p (xs ++ ys) ≡ length xs)
        → cond b (1 + chars_len p (xs ++ ys)) 0 ≡ suc (length xs)
    by true e step = omega (arith, step e)
    by false e step = cc

-- the bytes that go on a number are one that does not go on
pub number_goes_on : (part : NumberPart) (xs : List ℕ) → is_number part (take (number_len part xs) xs) (drop (number_len part xs) xs) ≡ true
number_goes_on part [] = refl
number_goes_on part (x ∷ xs) = by (takes part x xs) refl (number_goes_on (after part x) xs)
  where
    by : (b : Bool) → takes part x xs ≡ b → is_number (after part x) (take (number_len (after part x) xs) xs) (drop (number_len (after part x) xs) xs) ≡ true
        → is_number part (take (cond b (1 + number_len (after part x) xs) 0) (x ∷ xs)) (drop (cond b (1 + number_len (after part x) xs) 0) (x ∷ xs)) ≡ true
    by true goes rest = rw (one_more (number_len (after part x) xs), take-append-drop (number_len (after part x) xs) xs, goes) rest
    by false stops rest = rw stops refl

-- and no other number of them is
pub number_is : (part : NumberPart) (xs ys : List ℕ) → is_number part xs ys ≡ true → number_len part (xs ++ ys) ≡ length xs
number_is part [] [] e = refl
number_is part [] (y ∷ ys) e = rw (not_true (takes part y ys) e) refl
number_is part (x ∷ xs) ys e = by (takes part x (xs ++ ys)) e (number_is (after part x) xs ys)
  where
    by : (b : Bool) → (b && is_number (after part x) xs ys) ≡ true → (is_number (after part x) xs ys ≡ true → number_len (after part x) (xs ++ ys) ≡ length xs)
        → cond b (1 + number_len (after part x) (xs ++ ys)) 0 ≡ suc (length xs)
    by true e step = omega (arith, step e)
    by false e step = cc
