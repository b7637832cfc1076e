-- A raw string ends at the first quote with its hashes.
use Rattle.std.proofs.Common.{◌≡◌, ◌+◌, ◌<◌, ◌≤◌, ◌++◌, ℕ, zero, suc, Bool, true, false, not, List, [], ◌∷◌, Some, length, refl, ap, sym, ◌∙◌, subst, arith, append_assoc, length-append}
use Rattle.std.specs.Prelude.{◌&&◌, ◌==◌, if◌then◌else◌, nat_lt, replicate}
use Rattle.std.proofs.lemmas.Grind.{common_steps}
use Rattle.std.proofs.lemmas.Bool.{ltb-true, ltb-false}
use Rattle.item_tree.specs.Shapes.{matched_with, past_raw}
use Rattle.item_tree.specs.RawStrings.{closing}

-- the bytes of a closing that are matched
abbrev part : ℕ → List ℕ
part zero = []
part (suc k) = 34 ∷ replicate k 35

equal_bytes : (a b : ℕ) → (a == b) ≡ true → a ≡ b
equal_bytes a b e = grind (arith, common_steps)

not_zero : (m : ℕ) → 0 < m → (m == 0) ≡ false
not_zero m h = grind (arith, common_steps)

one_more : (n : ℕ) → n + 1 ≡ suc n
one_more n = omega arith

-- one hash more behind some hashes
hash_behind : (k : ℕ) (xs : List ℕ) → replicate k 35 ++ (35 ∷ xs) ≡ replicate (suc k) 35 ++ xs
hash_behind zero xs = refl
hash_behind (suc k) xs = ap (λ l. 35 ∷ l) (hash_behind k xs)

part_more : (m : ℕ) (xs : List ℕ) → (m == 0) ≡ false → part m ++ (35 ∷ xs) ≡ part (m + 1) ++ xs
part_more zero xs e = cc
part_more (suc k) xs e = rw (one_more (suc k)) (ap (λ l. 34 ∷ l) (hash_behind k xs))

-- the matched bytes and the text have a closing, and the rest behind it
abbrev Found : ℕ → ℕ → List ℕ → List ℕ → Type 0
Found n m xs zs = (body : List ℕ) × (part m ++ xs ≡ body ++ (closing n ++ zs))

-- a byte that begins anew
further : (n m x : ℕ) (xs zs : List ℕ) → Found n 0 xs zs → Found n m (x ∷ xs) zs
further n m x xs zs found =
    (part m ++ (x ∷ found.0), ap (λ l. part m ++ (x ∷ l)) found.1 ∙ sym (append_assoc (part m) (x ∷ found.0) (closing n ++ zs)))

from_quote : (n m : ℕ) (xs zs : List ℕ) → Found n 1 xs zs → Found n m (34 ∷ xs) zs
from_quote n m xs zs found =
    (part m ++ found.0, ap (λ l. part m ++ l) found.1 ∙ sym (append_assoc (part m) found.0 (closing n ++ zs)))

from_hash : (n m : ℕ) (xs zs : List ℕ) → (m == 0) ≡ false → Found n (m + 1) xs zs → Found n m (35 ∷ xs) zs
from_hash n m xs zs some found = (found.0, part_more m xs some ∙ found.1)

-- all of a closing is matched
all_matched : (n m : ℕ) (xs zs : List ℕ) → m ≡ n + 1 → xs ≡ zs → Found n m xs zs
all_matched n m xs zs is same = ([], ap (λ k. part k ++ xs) (is ∙ one_more n) ∙ ap (λ l. closing n ++ l) same)

pub found : (n m : ℕ) (xs zs : List ℕ) → m ≤ n → past_raw n m xs ≡ Some zs → Found n m xs zs
found n m [] zs small h = cc
found n m (x ∷ xs) zs small h =
    by (x == 34) refl (x == 35) refl (m == 0) refl h (found n 1 xs zs) (found n (m + 1) xs zs) (found n 0 xs zs)
  where
    stopped : (k : ℕ) → k ≤ n + 1 → (b : Bool) → nat_lt n k ≡ b → (if b then Some xs else past_raw n k xs) ≡ Some zs → (k ≤ n → past_raw n k xs ≡ Some zs → Found n k xs zs) → Found n k xs zs
    stopped k small true is h go = let above = ltb-true n k is in all_matched n k xs zs (omega arith) cc
    stopped k small false is h go = go (ltb-false n k is) h

    at_byte : (y : ℕ) → x ≡ y → Found n m (y ∷ xs) zs → Found n m (x ∷ xs) zs
    at_byte y e f = subst (λ z. Found n m (z ∷ xs) zs) (sym e) f

    by : (quote : Bool) → (x == 34) ≡ quote → (hash : Bool) → (x == 35) ≡ hash → (none : Bool) → (m == 0) ≡ none
        → (if nat_lt n (if quote then 1 else if hash && not none then m + 1 else 0) then Some xs else past_raw n (if quote then 1 else if hash && not none then m + 1 else 0) xs) ≡ Some zs
        → (1 ≤ n → past_raw n 1 xs ≡ Some zs → Found n 1 xs zs)
        → (m + 1 ≤ n → past_raw n (m + 1) xs ≡ Some zs → Found n (m + 1) xs zs)
        → (0 ≤ n → past_raw n 0 xs ≡ Some zs → Found n 0 xs zs)
        → Found n m (x ∷ xs) zs
    by true q hash e none z h one more anew = at_byte 34 (equal_bytes x 34 q) (from_quote n m xs zs (stopped 1 (omega arith) (nat_lt n 1) refl h one))
    by false q true e false z h one more anew = at_byte 35 (equal_bytes x 35 e) (from_hash n m xs zs z (stopped (m + 1) (omega arith) (nat_lt n (m + 1)) refl h more))
    by false q true e true z h one more anew = further n m x xs zs (stopped 0 (omega arith) (nat_lt n 0) refl h anew)
    by false q false e none z h one more anew = further n m x xs zs (stopped 0 (omega arith) (nat_lt n 0) refl h anew)

-- hashes behind matched bytes that make up a closing end the text there, or it has ended before
behind_hashes : (n r m : ℕ) (b zs : List ℕ) → 0 < m → 0 < r → m + r ≡ n + 1 → past_raw n m (replicate r 35 ++ b) ≡ Some zs → length b ≤ length zs
behind_hashes n zero m b zs some more is h = absurd (omega arith)
behind_hashes n (suc r) m b zs some more is h =
    by (m == 0) (not_zero m some) (nat_lt n (m + 1)) refl h (behind_hashes n r (m + 1) b zs)
  where
    by : (none : Bool) → none ≡ false → (stop : Bool) → nat_lt n (m + 1) ≡ stop
        → (if nat_lt n (if not none then m + 1 else 0) then Some (replicate r 35 ++ b) else past_raw n (if not none then m + 1 else 0) (replicate r 35 ++ b)) ≡ Some zs
        → (0 < m + 1 → 0 < r → m + 1 + r ≡ n + 1 → past_raw n (m + 1) (replicate r 35 ++ b) ≡ Some zs → length b ≤ length zs)
        → length b ≤ length zs
    by true e stop s h step = cc
    by false e true s h step =
        let at_end : replicate r 35 ++ b ≡ zs = (let g : (if true then Some (replicate r 35 ++ b) else past_raw n (m + 1) (replicate r 35 ++ b)) ≡ Some zs = subst (λ c. (if c then Some (replicate r 35 ++ b) else past_raw n (m + 1) (replicate r 35 ++ b)) ≡ Some zs) s h in cc) in
        omega (arith, ap length at_end, length-append (replicate r 35) b)
    by false e false s h step =
        let g : past_raw n (m + 1) (replicate r 35 ++ b) ≡ Some zs = subst (λ c. (if c then Some (replicate r 35 ++ b) else past_raw n (m + 1) (replicate r 35 ++ b)) ≡ Some zs) s h in
        let below = ltb-false n (m + 1) s in
        step (omega arith) (omega arith) (omega arith) g

-- no more is left than behind any closing
pub first : (n m : ℕ) (a b zs : List ℕ) → past_raw n m (a ++ (closing n ++ b)) ≡ Some zs → length b ≤ length zs
first n m [] b zs h = by (nat_lt n 1) refl h
  where
    by : (stop : Bool) → nat_lt n 1 ≡ stop → (if stop then Some (replicate n 35 ++ b) else past_raw n 1 (replicate n 35 ++ b)) ≡ Some zs → length b ≤ length zs
    by true s h = let at_end : replicate n 35 ++ b ≡ zs = cc in omega (arith, ap length at_end, length-append (replicate n 35) b)
    by false s h = let below = ltb-false n 1 s in behind_hashes n n 1 b zs (omega arith) (omega arith) (omega arith) h
first n m (x ∷ a) b zs h = by (nat_lt n (matched_with m x)) h (first n (matched_with m x) a b zs)
  where
    by : (stop : Bool) → (if stop then Some (a ++ (closing n ++ b)) else past_raw n (matched_with m x) (a ++ (closing n ++ b))) ≡ Some zs
        → (past_raw n (matched_with m x) (a ++ (closing n ++ b)) ≡ Some zs → length b ≤ length zs) → length b ≤ length zs
    by true h step =
        let at_end : a ++ (closing n ++ b) ≡ zs = cc in
        omega (arith, ap length at_end, length-append a (closing n ++ b), length-append (closing n) b)
    by false h step = step h
