-- An import chain that ends has no pair twice, so a walk as long as there are records finds its end.
use Rattle.std.proofs.Common.{◌≡◌, ℕ, zero, suc, ◌<◌, ◌≤◌, Bool, true, false, List, [], ◌∷◌, length, map, ◌++◌, ◌+◌, Option, None, Some, refl, sym, ap, subst, ◌∙◌, true≢false, arith, ◌||◌}
use Rattle.std.specs.List.{AllByRecursion, IsDistinct}
use Rattle.std.specs.Set.{is_member}
use Rattle.std.specs.Cmp.{IsEquivalence}
use Rattle.std.specs.Option.{option_and_then, option_or}
use Rattle.std.proofs.lemmas.Map.Made.{length-le_from_is_member}
use Rattle.std.proofs.lemmas.List.{length-map, length-append}
use Rattle.dm_scope.specs.Chains.{last_from, IsChain, EndsIn}
use Rattle.dm_scope.specs.ChainSteps.{found_within}

pub some_is : {X : Type 0} (x y : X) → Some x ≡ Some y → x ≡ y
some_is x y e = cc

module _ {X D : Type 0} (leads : X → Option X) (ends : X → Option D) where
  -- what a walk finds is the end of a chain
  pub found_within-ends : (n : ℕ) (x : X) (d : D) → found_within leads ends n x ≡ Some d → EndsIn leads ends x d
  found_within-ends zero x d h = absurd (let e : ⊥ = cc in e)
  found_within-ends (suc n) x d h = by (ends x) refl (leads x) refl h (λ y. found_within-ends n y d)
    where
      by : (o : Option D) → ends x ≡ o → (l : Option X) → leads x ≡ l → option_or o (option_and_then (found_within leads ends n) l) ≡ Some d
          → ((y : X) → found_within leads ends n y ≡ Some d → EndsIn leads ends y d) → EndsIn leads ends x d
      by (Some e) is l to h rest = ([], tt, is ∙ h)
      by None is None to h rest = absurd (let e : ⊥ = cc in e)
      by None is (Some y) to h rest = let c = rest y h in (y ∷ c.0, (to, c.1), c.2)

  -- where no pair both ends and leads on, a walk that is longer than a chain finds its end
  pub found_within-chain : ((x y : X) (d : D) → leads x ≡ Some y → ends x ≡ Some d → ⊥)
      → (n : ℕ) (x : X) (ys : List X) (d : D) → IsChain leads x ys → ends (last_from x ys) ≡ Some d → length ys < n → found_within leads ends n x ≡ Some d
  found_within-chain apart zero x ys d c e less = absurd (omega arith)
  found_within-chain apart (suc n) x [] d c e less = ap (λ o. option_or o (option_and_then (found_within leads ends n) (leads x))) e
  found_within-chain apart (suc n) x (y ∷ ys) d c e less =
      by (ends x) refl ∙ ap (option_and_then (found_within leads ends n)) c.0 ∙ found_within-chain apart n y ys d c.1 e (omega arith)
    where
      by : (o : Option D) → ends x ≡ o → option_or o (option_and_then (found_within leads ends n) (leads x)) ≡ option_and_then (found_within leads ends n) (leads x)
      by None is = refl
      by (Some d) is = absurd (apart x y d c.0 is)

  -- two chains from one pair that both end are one
  same_length : ((x y : X) (d : D) → leads x ≡ Some y → ends x ≡ Some d → ⊥)
      → (x : X) (ys zs : List X) (d : D) → IsChain leads x ys → ends (last_from x ys) ≡ Some d → IsChain leads x zs → ends (last_from x zs) ≡ Some d → length ys ≡ length zs
  same_length apart x [] [] d c e f k = refl
  same_length apart x [] (z ∷ zs) d c e f k = absurd (apart x z d f.0 e)
  same_length apart x (y ∷ ys) [] d c e f k = absurd (apart x y d c.0 k)
  same_length apart x (y ∷ ys) (z ∷ zs) d c e f k =
      let one : y ≡ z = some_is y z (sym c.0 ∙ f.0) in
      ap suc (same_length apart y ys zs d c.1 e (subst (λ w. IsChain leads w zs) (sym one) f.1) (subst (λ w. ends (last_from w zs) ≡ Some d) (sym one) k))

  pub chain_append : (x y : X) (ys zs : List X) → IsChain leads x ys → leads (last_from x ys) ≡ Some y → IsChain leads y zs → IsChain leads x (ys ++ y ∷ zs)
  chain_append x y [] zs c to d = (to, d)
  chain_append x y (w ∷ ws) zs c to d = (c.0, chain_append w y ws zs c.1 to d)

  pub last_append : (x y : X) (ys zs : List X) → last_from x (ys ++ y ∷ zs) ≡ last_from y zs
  last_append x y [] zs = refl
  last_append x y (w ∷ ws) zs = last_append w y ws zs

  -- from a pair of a cycle nothing is found
  pub found_within-round : ((x y : X) (d : D) → leads x ≡ Some y → ends x ≡ Some d → ⊥)
      → (x : X) (ys : List X) → IsChain leads x ys → leads (last_from x ys) ≡ Some x → (n : ℕ) → found_within leads ends n x ≡ None
  found_within-round apart x ys c to n = by (found_within leads ends n x) refl
    where
      by : (o : Option D) → found_within leads ends n x ≡ o → o ≡ None
      by None is = refl
      by (Some d) is =
          let h = found_within-ends n x d is in
          let long : length h.0 ≡ length (ys ++ x ∷ h.0) = same_length apart x h.0 (ys ++ x ∷ h.0) d h.1 h.2 (chain_append x x ys h.0 c to h.1) (ap ends (last_append x x ys h.0) ∙ h.2) in
          let sum : length (ys ++ x ∷ h.0) ≡ length ys + length (x ∷ h.0) = length-append ys (x ∷ h.0) in
          absurd (omega (arith, long, sum))

  module _ {K : Type 0} (eq : K → K → Bool) (key : X → K) (laws : IsEquivalence eq) (same : (a b : K) → eq a b ≡ true → a ≡ b)
      (apart : (x y : X) (d : D) → leads x ≡ Some y → ends x ≡ Some d → ⊥)
      (one : (x y z w : X) → leads x ≡ Some y → leads z ≡ Some w → eq (key y) (key w) ≡ true → y ≡ w) where
    -- the pair y, with ws after it, does not stand among the pairs after a later one
    not_again : (p y : X) (ws : List X) (d : D) → leads p ≡ Some y → IsChain leads y ws → ends (last_from y ws) ≡ Some d
        → (x : X) (zs : List X) → IsChain leads x zs → ends (last_from x zs) ≡ Some d → length zs ≤ length ws → AllByRecursion (λ k. eq (key y) k ≡ false) (map key zs)
    not_again p y ws d to c e x [] f k short = tt
    not_again p y ws d to c e x (z ∷ zs) f k short = by (eq (key y) (key z)) refl (not_again p y ws d to c e z zs f.1 k (omega arith))
      where
        by : (b : Bool) → eq (key y) (key z) ≡ b → AllByRecursion (λ k. eq (key y) k ≡ false) (map key zs) → (eq (key y) (key z) ≡ false) × AllByRecursion (λ k. eq (key y) k ≡ false) (map key zs)
        by true is rest =
            let w = one p y x z to f.0 is in
            let long : length ws ≡ length zs = same_length apart y ws zs d c e (subst (λ v. IsChain leads v zs) (sym w) f.1) (subst (λ v. ends (last_from v zs) ≡ Some d) (sym w) k) in
            absurd (omega arith)
        by false is rest = (is, rest)

    -- the pairs after the first differ
    chain_distinct : (x : X) (ys : List X) (d : D) → IsChain leads x ys → ends (last_from x ys) ≡ Some d → IsDistinct eq (map key ys)
    unfolding IsDistinct
    chain_distinct x [] d c e = tt
    chain_distinct x (y ∷ ys) d c e = (not_again x y ys d c.0 c.1 e y ys c.1 e (omega arith), chain_distinct y ys d c.1 e)

    module _ (keys : List K) (known : (x y z : X) → leads x ≡ Some y → leads y ≡ Some z → is_member eq keys (key y) ≡ true)
        (known_last : (x y : X) (d : D) → leads x ≡ Some y → ends y ≡ Some d → is_member eq keys (key y) ≡ true) where
      member_by : (x : X) (ys : List X) (d : D) → IsChain leads x ys → ends (last_from x ys) ≡ Some d → (q : K) → is_member eq (map key ys) q ≡ true → is_member eq keys q ≡ true
      member_by x [] d c e q h = absurd (true≢false (sym h))
      member_by x (y ∷ ys) d c e q h = by (eq q (key y)) refl h (member_by y ys d c.1 e q)
        where
          here : (ys : List X) → IsChain leads y ys → ends (last_from y ys) ≡ Some d → is_member eq keys (key y) ≡ true
          here [] c' e' = known_last x y d c.0 e'
          here (z ∷ zs) c' e' = known x y z c.0 c'.0

          by : (b : Bool) → eq q (key y) ≡ b → (b || is_member eq (map key ys) q) ≡ true → (is_member eq (map key ys) q ≡ true → is_member eq keys q ≡ true) → is_member eq keys q ≡ true
          by true is h rest = subst (λ k. is_member eq keys k ≡ true) (sym (same q (key y) is)) (here ys c.1 e)
          by false is h rest = rest h

      -- a walk through one pair more than there are keys loses no end
      pub found_within-keys : (n : ℕ) (x : X) (d : D) → length keys < n → EndsIn leads ends x d → found_within leads ends n x ≡ Some d
      found_within-keys n x d enough h =
          let fits : length (map key h.0) ≤ length keys = length-le_from_is_member laws (map key h.0) keys (chain_distinct x h.0 d h.1 h.2) (member_by x h.0 d h.1 h.2) in
          let same : length (map key h.0) ≡ length h.0 = length-map h.0 key in
          found_within-chain apart n x h.0 d h.1 h.2 (omega arith)
