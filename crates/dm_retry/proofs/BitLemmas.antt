-- Sets of places as words of bits.
use Rattle.std.proofs.Common.{◌≡◌, ◌≢◌, ◌⊎◌, inl, inr, ◌∙◌, ◌*◌, ◌/◌, ◌%◌, ◌^◌, ◌<◌, ℕ, Bool, true, false, List, if◌then◌else◌, not, ap, refl, sym, subst, arith, length, get_or, set, nat_eq, bit_and, bit_or, w64, get_or-set_same, get_or-set_other}
use Rattle.std.proofs.lemmas.Nat.Bits.{bit_at_set_same, bit_at_set_other, bit_at_clear_same, bit_at_clear_other, bit_at-zero}
use Rattle.std.proofs.lemmas.Bool.{eq-eqb, ne_eqb}
use Rattle.std.proofs.lemmas.Bool.Decides.{eqb_tells}
use Rattle.std.specs.Int.{bit_at, bit_not}
use Rattle.dm_retry.specs.Bits.{has, word, IsSummary}

-- a word of a set in which the word w was put in place of that of k
module _ (ws : List ℕ) (k w : ℕ) (within : k / 64 < length ws) where
  pub has-set_here : (i : ℕ) → i / 64 ≡ k / 64 → has (set ws (k / 64) w) i ≡ nat_eq (bit_at w (i % 64)) 1
  has-set_here i e = ap (λ j. nat_eq (bit_at (get_or (set ws (k / 64) w) j 0) (i % 64)) 1) e ∙ ap (λ v. nat_eq (bit_at v (i % 64)) 1) (get_or-set_same ws (k / 64) w 0 within)

  pub has-set_elsewhere : (i : ℕ) → i / 64 ≢ k / 64 → has (set ws (k / 64) w) i ≡ has ws i
  has-set_elsewhere i e = ap (λ v. nat_eq (bit_at v (i % 64)) 1) (get_or-set_other ws (k / 64) (i / 64) w 0 e)

  -- where the word w has b at k and else the bits of the old, so has the set
  pub has-written : (b : Bool) → nat_eq (bit_at w (k % 64)) 1 ≡ b → ((i : ℕ) → i < 64 → i ≢ k % 64 → bit_at w i ≡ bit_at (get_or ws (k / 64) 0) i) → (i : ℕ)
      → has (set ws (k / 64) w) i ≡ if nat_eq i k then b else has ws i
  has-written b here others i = by (eqb_tells i k) (eqb_tells (i / 64) (k / 64))
    where
      by : ((nat_eq i k ≡ true) × (i ≡ k)) ⊎ ((nat_eq i k ≡ false) × (i ≢ k)) → ((nat_eq (i / 64) (k / 64) ≡ true) × (i / 64 ≡ k / 64)) ⊎ ((nat_eq (i / 64) (k / 64) ≡ false) × (i / 64 ≢ k / 64))
          → has (set ws (k / 64) w) i ≡ if nat_eq i k then b else has ws i
      by (inl e) s = has-set_here i (ap (λ n. n / 64) e.1) ∙ ap (λ n. nat_eq (bit_at w (n % 64)) 1) e.1 ∙ here ∙ sym (ap (λ c. if c then b else has ws i) e.0)
      by (inr e) (inl s) =
          let apart : i % 64 ≢ k % 64 = λ h. e.1 (omega (arith, h, s.1)) in
          has-set_here i s.1 ∙ ap (λ v. nat_eq v 1) (others (i % 64) (omega arith) apart) ∙ ap (λ j. nat_eq (bit_at (get_or ws j 0) (i % 64)) 1) (sym s.1)
          ∙ sym (ap (λ c. if c then b else has ws i) e.0)
      by (inr e) (inr s) = has-set_elsewhere i s.1 ∙ sym (ap (λ c. if c then b else has ws i) e.0)

  pub inserted : w ≡ bit_or (get_or ws (k / 64) 0) (1 * 2 ^ (k % 64) % 2 ^ 64) → (i : ℕ) → has (set ws (k / 64) w) i ≡ if nat_eq i k then true else has ws i
  inserted e = has-written true (ap (λ v. nat_eq (bit_at v (k % 64)) 1) e ∙ ap (λ v. nat_eq v 1) (bit_at_set_same w64 (get_or ws (k / 64) 0) (k % 64) (omega arith)))
      (λ i below other. ap (λ v. bit_at v i) e ∙ bit_at_set_other w64 (get_or ws (k / 64) 0) (k % 64) (omega arith) i other)

  pub removed : w ≡ bit_and (get_or ws (k / 64) 0) (bit_not w64 (1 * 2 ^ (k % 64) % 2 ^ 64)) → (i : ℕ) → has (set ws (k / 64) w) i ≡ if nat_eq i k then false else has ws i
  removed e = has-written false (ap (λ v. nat_eq (bit_at v (k % 64)) 1) e ∙ ap (λ v. nat_eq v 1) (bit_at_clear_same w64 (get_or ws (k / 64) 0) (k % 64) (omega arith)))
      (λ i below other. ap (λ v. bit_at v i) e ∙ bit_at_clear_other w64 (get_or ws (k / 64) 0) (k % 64) (omega arith) i below other)

  -- a word with a bit is not 0
  pub filled : w ≡ bit_or (get_or ws (k / 64) 0) (1 * 2 ^ (k % 64) % 2 ^ 64) → nat_eq (word (set ws (k / 64) w) (k / 64)) 0 ≡ false
  filled e = ap (λ v. nat_eq v 0) (get_or-set_same ws (k / 64) w 0 within) ∙ ne_eqb w 0 (λ z. absurd (by (sym (bit_at-zero (k % 64)) ∙ ap (λ v. bit_at v (k % 64)) (sym z ∙ e) ∙ bit_at_set_same w64 (get_or ws (k / 64) 0) (k % 64) (omega arith))))
    where
      by : ◌≡◌ {A = ℕ} 0 1 → ⊥
      by h = omega arith

  -- and a word without bits stays 0
  pub emptied : w ≡ bit_and (get_or ws (k / 64) 0) (bit_not w64 (1 * 2 ^ (k % 64) % 2 ^ 64)) → word ws (k / 64) ≡ 0 → word (set ws (k / 64) w) (k / 64) ≡ 0
  emptied e z = get_or-set_same ws (k / 64) w 0 within ∙ e ∙ ap (λ v. bit_and v (bit_not w64 (1 * 2 ^ (k % 64) % 2 ^ 64))) z

-- a summary after a change of the word at q, whose place it has exactly if the word is not 0
pub summary-after : (top ws top' ws' : List ℕ) (q : ℕ) → IsSummary top ws → ((j : ℕ) → j ≢ q → has top' j ≡ has top j) → ((j : ℕ) → j ≢ q → word ws' j ≡ word ws j)
    → has top' q ≡ not (nat_eq (word ws' q) 0) → IsSummary top' ws'
summary-after top ws top' ws' q s tops words here j = by (eqb_tells j q)
  where
    by : ((nat_eq j q ≡ true) × (j ≡ q)) ⊎ ((nat_eq j q ≡ false) × (j ≢ q)) → has top' j ≡ not (nat_eq (word ws' j) 0)
    by (inl e) = subst (λ n. has top' n ≡ not (nat_eq (word ws' n) 0)) (sym e.1) here
    by (inr e) = tops j e.1 ∙ s j ∙ ap (λ v. not (nat_eq v 0)) (sym (words j e.1))

-- what a change of one place tells of it, and of the others
pub at_place : (f g : ℕ → Bool) (k : ℕ) (b : Bool) → ((i : ℕ) → f i ≡ if nat_eq i k then b else g i) → f k ≡ b
at_place f g k b h = h k ∙ ap (λ c. if c then b else g k) (eq-eqb k k refl)

pub elsewhere : (f g : ℕ → Bool) (k : ℕ) (b : Bool) → ((i : ℕ) → f i ≡ if nat_eq i k then b else g i) → (i : ℕ) → i ≢ k → f i ≡ g i
elsewhere f g k b h i other = h i ∙ ap (λ c. if c then b else g i) (ne_eqb i k other)
