-- The first place of a set.
use Rattle.std.proofs.Common.{◌≡◌, ◌≢◌, ◌⊎◌, inl, inr, ◌∙◌, ◌+◌, ◌-◌, ◌*◌, ◌/◌, ◌%◌, ◌^◌, ◌<◌, ◌≤◌, min, ℕ, Bool, true, false, not, List, Option, None, Some, ap, sym, IfNone, arith, length, leb, nat_eq, bit_and, w64, true≢false}
use Rattle.std.proofs.lemmas.Nat.Bits.{bit_at_and, bit_at_mask_inside, bit_at_mask_below, bit_at-trailing_zeros, bit_at-zero, bit_at-lt, ones_shl, same_from_bits_below}
use Rattle.std.proofs.lemmas.List.{get_or_past}
use Rattle.std.proofs.lemmas.Bool.{eq-eqb}
use Rattle.std.proofs.lemmas.Bool.Decides.{leb_tells, eqb_tells}
use Rattle.std.specs.Int.{bit_at, trailing_zeros}
use Rattle.dm_retry.specs.Bits.{has, word, IsFirst, IsFirstBelow, IsLowest, IsSummary}

-- the first of one set is that of a set with the same places
pub first-same : (f g : ℕ → Bool) (from : ℕ) (r : Option ℕ) → ((k : ℕ) → f k ≡ g k) → IsFirst f from r → IsFirst g from r
first-same f g from None same h = λ k from-k. sym (same k) ∙ h k from-k
first-same f g from (Some i) same h = (h.0, sym (same i) ∙ h.1, λ k from-k k-i. sym (same k) ∙ h.2 k from-k k-i)

-- where there is none up to `mid`, the first from there on is the first
pub first-later : (f : ℕ → Bool) (from mid : ℕ) (r : Option ℕ) → from ≤ mid → ((k : ℕ) → from ≤ k → k < mid → f k ≡ false) → IsFirst f mid r → IsFirst f from r
first-later f from mid None le none h = λ k from-k. by k from-k (leb_tells mid k)
  where
    by : (k : ℕ) → from ≤ k → ((leb mid k ≡ true) × (mid ≤ k)) ⊎ ((leb mid k ≡ false) × (k < mid)) → f k ≡ false
    by k from-k (inl e) = h k e.1
    by k from-k (inr e) = none k from-k e.1
first-later f from mid (Some i) le none h = (omega (arith, h.0), h.1, λ k from-k k-i. by k from-k k-i (leb_tells mid k))
  where
    by : (k : ℕ) → from ≤ k → k < i → ((leb mid k ≡ true) × (mid ≤ k)) ⊎ ((leb mid k ≡ false) × (k < mid)) → f k ≡ false
    by k from-k k-i (inl e) = h.2 k e.1 k-i
    by k from-k k-i (inr e) = none k from-k e.1

-- the bits of a word from `from` on
module _ (w h from : ℕ) (within : from < 64) (is : h ≡ bit_and w ((2 ^ 64 - 1) * 2 ^ from % 2 ^ 64)) where
  masked : (i : ℕ) → bit_at h i ≡ min (bit_at w i) (bit_at (2 ^ 64 - 2 ^ from) i)
  masked i = ap (λ v. bit_at v i) (is ∙ ap (bit_and w) (ones_shl 64 from (omega arith))) ∙ bit_at_and w (2 ^ 64 - 2 ^ from) i

  pub above : (i : ℕ) → from ≤ i → i < 64 → bit_at h i ≡ bit_at w i
  above i from-i i-64 =
      let small = bit_at-lt w i in
      let least : min (bit_at w i) 1 ≡ bit_at w i = omega arith in
      masked i ∙ ap (min (bit_at w i)) (bit_at_mask_inside from 64 i from-i i-64) ∙ least

  pub below : (i : ℕ) → i < from → bit_at h i ≡ 0
  below i i-from =
      let least : min (bit_at w i) 0 ≡ 0 = omega arith in
      masked i ∙ ap (min (bit_at w i)) (bit_at_mask_below from 64 i i-from) ∙ least

  pub lowest-none : w < 2 ^ 64 → h ≡ 0 → IsLowest w from None
  lowest-none fits zero = (none, λ start. same_from_bits_below 64 w 0 fits (omega arith) (λ i i-64. none i (omega arith) i-64 ∙ sym (bit_at-zero i)))
    where
      none : (i : ℕ) → from ≤ i → i < 64 → bit_at w i ≡ 0
      none i from-i i-64 = sym (above i from-i i-64) ∙ ap (λ v. bit_at v i) zero ∙ bit_at-zero i

  pub lowest-some : h < 2 ^ 64 → 0 < h → IsLowest w from (Some (trailing_zeros w64 h))
  lowest-some fits some =
      let t = bit_at-trailing_zeros w64 h some fits in
      let r = trailing_zeros w64 h in
      let low : from ≤ r = by (leb_tells from r) t.1 in
      (low, t.0, sym (above r low t.0) ∙ t.1, λ i from-i i-r. sym (above i from-i (omega (arith, t.0))) ∙ t.2 i i-r)
    where
      by : ((leb from (trailing_zeros w64 h) ≡ true) × (from ≤ trailing_zeros w64 h)) ⊎ ((leb from (trailing_zeros w64 h) ≡ false) × (trailing_zeros w64 h < from)) → bit_at h (trailing_zeros w64 h) ≡ 1 → from ≤ trailing_zeros w64 h
      by (inl e) one = e.1
      by (inr e) one = let none = below (trailing_zeros w64 h) e.1 in absurd (omega arith)

-- a bit that is 0 is no place, and one that is 1 is
no_bit : (ws : List ℕ) (k : ℕ) → bit_at (word ws (k / 64)) (k % 64) ≡ 0 → has ws k ≡ false
no_bit ws k e = ap (λ v. nat_eq v 1) e

empty-word : (ws : List ℕ) (k : ℕ) → word ws (k / 64) ≡ 0 → has ws k ≡ false
empty-word ws k e = no_bit ws k (ap (λ v. bit_at v (k % 64)) e ∙ bit_at-zero (k % 64))

-- the first place of those in one word
pub in-word-none : (ws : List ℕ) (from : ℕ) → IsLowest (word ws (from / 64)) (from % 64) None → IsFirstBelow (has ws) from (from / 64 * 64 + 64) None
in-word-none ws from h k from-k k-end =
    let same : k / 64 ≡ from / 64 = omega arith in
    no_bit ws k (ap (λ j. bit_at (word ws j) (k % 64)) same ∙ h.0 (k % 64) (omega arith) (omega arith))

pub in-word-some : (ws : List ℕ) (from r : ℕ) → IsLowest (word ws (from / 64)) (from % 64) (Some r) → IsFirst (has ws) from (Some (from / 64 * 64 + r))
in-word-some ws from r h =
    let i = from / 64 * 64 + r in
    let r-64 = h.1 in
    let from-r = h.0 in
    let word-of : i / 64 ≡ from / 64 = omega arith in
    let bit-of : i % 64 ≡ r = omega arith in (
      omega arith,
      ap (λ j. nat_eq (bit_at (word ws j) (i % 64)) 1) word-of ∙ ap (λ b. nat_eq (bit_at (word ws (from / 64)) b) 1) bit-of ∙ ap (λ v. nat_eq v 1) h.2,
      λ k from-k k-i. let same : k / 64 ≡ from / 64 = omega arith in no_bit ws k (ap (λ j. bit_at (word ws j) (k % 64)) same ∙ h.3 (k % 64) (omega arith) (omega arith)),
    )

-- past the last word there is no place
pub past-words : (ws : List ℕ) (from : ℕ) → length ws ≤ from / 64 → IsFirst (has ws) from None
past-words ws from h k from-k = empty-word ws k (get_or_past ws (k / 64) 0 (omega arith))

-- the words that a summary does not have are 0
pub skipped : (top ws : List ℕ) (k : ℕ) → IsSummary top ws → has top (k / 64) ≡ false → has ws k ≡ false
skipped top ws k s none = empty-word ws k (by (eqb_tells (word ws (k / 64)) 0) (sym none ∙ s (k / 64)))
  where
    by : ((nat_eq (word ws (k / 64)) 0 ≡ true) × (word ws (k / 64) ≡ 0)) ⊎ ((nat_eq (word ws (k / 64)) 0 ≡ false) × (word ws (k / 64) ≢ 0)) → false ≡ not (nat_eq (word ws (k / 64)) 0) → word ws (k / 64) ≡ 0
    by (inl e) t = e.1
    by (inr e) t = absurd (true≢false (sym (t ∙ ap not e.0)))

-- and those that it has are not
pub summed : (top ws : List ℕ) (j : ℕ) → IsSummary top ws → has top j ≡ true → word ws j ≢ 0
summed top ws j s some z = true≢false (sym some ∙ s j ∙ ap not (eq-eqb (word ws j) 0 z))

-- from the word of `from` through the summary to the word that it has next
pub next-word : (top ws : List ℕ) (from j : ℕ) (r : Option ℕ) → IsSummary top ws → IsFirstBelow (has ws) from (from / 64 * 64 + 64) None → IsFirst (has top) (from / 64 + 1) (Some j)
    → IsFirstBelow (has ws) (j * 64) (j * 64 / 64 * 64 + 64) r → IfNone r (j * 64 % 64 ≡ 0 → word ws (j * 64 / 64) ≡ 0) → IsFirst (has ws) from r
next-word top ws from j None s here up there none = absurd (summed top ws j s up.1 (let same : j * 64 / 64 ≡ j = omega arith in sym (ap (word ws) same) ∙ none (omega arith)))
next-word top ws from j (Some i) s here up there none =
    first-later (has ws) from (j * 64) (Some i) (omega (arith, up.0)) (λ k from-k k-j. by k from-k k-j (leb_tells (from / 64 * 64 + 64) k)) there
  where
    by : (k : ℕ) → from ≤ k → k < j * 64 → ((leb (from / 64 * 64 + 64) k ≡ true) × (from / 64 * 64 + 64 ≤ k)) ⊎ ((leb (from / 64 * 64 + 64) k ≡ false) × (k < from / 64 * 64 + 64)) → has ws k ≡ false
    by k from-k k-j (inl e) = skipped top ws k s (let past = e.1 in up.2 (k / 64) (omega arith) (omega arith))
    by k from-k k-j (inr e) = here k from-k e.1

-- or to the end
pub no-word : (top ws : List ℕ) (from : ℕ) → IsSummary top ws → IsFirstBelow (has ws) from (from / 64 * 64 + 64) None → IsFirst (has top) (from / 64 + 1) None → IsFirst (has ws) from None
no-word top ws from s here up k from-k = by (leb_tells (from / 64 * 64 + 64) k)
  where
    by : ((leb (from / 64 * 64 + 64) k ≡ true) × (from / 64 * 64 + 64 ≤ k)) ⊎ ((leb (from / 64 * 64 + 64) k ≡ false) × (k < from / 64 * 64 + 64)) → has ws k ≡ false
    by (inl e) = skipped top ws k s (let past = e.1 in up (k / 64) (omega arith))
    by (inr e) = here k from-k e.1
