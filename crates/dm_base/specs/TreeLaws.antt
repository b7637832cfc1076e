-- A chain of modules goes on with that of the next module: of the containing one, and of the one around the block.
use Rattle.std.proofs.Common.{◌≡◌, ◌≤◌, ◌<◌, ℕ, zero, suc, List, [], ◌∷◌, Option, None, Some, refl, sym, ap, ◌∙◌}
use Rattle.std.specs.Option.{option_map_or}
use Rattle.std.proofs.Math.Nat.{le-pred_of_lt, le_refl, le-suc, le_of_lt, lt_of_lt_of_le, not-suc-le-zero}
use Rattle.dm_base.specs.declared.ids.ModuleId.{ModuleId}
use Rattle.dm_base.specs.Tree.{Tree, IsTree, IsKnown, containing, outside, chain_within, chain, outward_within, outward}

-- Any way outwards in which the numbers of modules get smaller, as far as n steps.
module _ (t : Tree) (next : ModuleId → Option ModuleId) (within : ℕ → ModuleId → List ModuleId)
    (ends : (m : ModuleId) → within zero m ≡ m ∷ [])
    (goes_on : (n : ℕ) (m : ModuleId) → within (suc n) m ≡ m ∷ option_map_or (within n) (next m) [])
    (known : (m c : ModuleId) → IsKnown t m → next m ≡ Some c → IsKnown t c)
    (smaller : (m c : ModuleId) → IsKnown t m → next m ≡ Some c → c.0 < m.0) where
  -- as many steps as the module's number are enough
  enough : (n k : ℕ) (m : ModuleId) → IsKnown t m → m.0 ≤ n → m.0 ≤ k → within n m ≡ within k m
  enough zero zero m is h g = refl
  enough zero (suc k) m is h g = ends m ∙ by (next m) refl ∙ sym (goes_on k m)
    where
      by : (o : Option ModuleId) → next m ≡ o → m ∷ [] ≡ m ∷ option_map_or (within k) o []
      by None e = refl
      by (Some c) e = absurd (not-suc-le-zero (lt_of_lt_of_le (smaller m c is e) h))
  enough (suc n) zero m is h g = goes_on n m ∙ by (next m) refl ∙ sym (ends m)
    where
      by : (o : Option ModuleId) → next m ≡ o → m ∷ option_map_or (within n) o [] ≡ m ∷ []
      by None e = refl
      by (Some c) e = absurd (not-suc-le-zero (lt_of_lt_of_le (smaller m c is e) g))
  enough (suc n) (suc k) m is h g =
      goes_on n m
      ∙ by (next m) refl (λ c e. enough n k c (known m c is e) (le-pred_of_lt (lt_of_lt_of_le (smaller m c is e) h)) (le-pred_of_lt (lt_of_lt_of_le (smaller m c is e) g)))
      ∙ sym (goes_on k m)
    where
      by : (o : Option ModuleId) → next m ≡ o → ((c : ModuleId) → next m ≡ Some c → within n c ≡ within k c) → m ∷ option_map_or (within n) o [] ≡ m ∷ option_map_or (within k) o []
      by None e same = refl
      by (Some c) e same = ap (λ l. m ∷ l) (same c e)

  on : (m c : ModuleId) → IsKnown t m → next m ≡ Some c → within m.0 m ≡ m ∷ within c.0 c
  on m c is e =
      enough m.0 (suc m.0) m is (le_refl m.0) (le-suc m.0)
      ∙ goes_on m.0 m
      ∙ ap (λ o. m ∷ option_map_or (within m.0) o []) e
      ∙ ap (λ l. m ∷ l) (enough m.0 c.0 c (known m c is e) (le_of_lt (smaller m c is e)) (le_refl c.0))

  alone : (m : ModuleId) → IsKnown t m → next m ≡ None → within m.0 m ≡ m ∷ []
  alone m is e = enough m.0 (suc m.0) m is (le_refl m.0) (le-suc m.0) ∙ goes_on m.0 m ∙ ap (λ o. m ∷ option_map_or (within m.0) o []) e

module _ (t : Tree) (tree : IsTree t) where
  -- a chain goes on with that of the containing module
  pub chain-containing : (m c : ModuleId) → IsKnown t m → containing t m ≡ Some c → chain t m ≡ m ∷ chain t c
  chain-containing = on t (containing t) (λ n. chain_within n t) (λ m. refl) (λ n m. refl) tree.containing_known tree.containing_smaller

  -- a module that nothing contains is its whole chain
  pub chain-alone : (m : ModuleId) → IsKnown t m → containing t m ≡ None → chain t m ≡ m ∷ []
  chain-alone = alone t (containing t) (λ n. chain_within n t) (λ m. refl) (λ n m. refl) tree.containing_known tree.containing_smaller

  -- both in one
  pub chain-step : (m : ModuleId) (o : Option ModuleId) → IsKnown t m → o ≡ containing t m → chain t m ≡ m ∷ option_map_or (chain t) o []
  chain-step m None is e = chain-alone m is (sym e)
  chain-step m (Some c) is e = chain-containing m c is (sym e)

  -- lifting goes on from the module that contains the block
  pub outward-outside : (m c : ModuleId) → IsKnown t m → outside t m ≡ Some c → outward t m ≡ m ∷ outward t c
  outward-outside = on t (outside t) (λ n. outward_within n t) (λ m. refl) (λ n m. refl) tree.outside_known tree.outside_smaller

  -- a module in no block is lifted no further
  pub outward-alone : (m : ModuleId) → IsKnown t m → outside t m ≡ None → outward t m ≡ m ∷ []
  outward-alone = alone t (outside t) (λ n. outward_within n t) (λ m. refl) (λ n m. refl) tree.outside_known tree.outside_smaller

  -- both in one
  pub outward-step : (m : ModuleId) (o : Option ModuleId) → IsKnown t m → o ≡ outside t m → outward t m ≡ m ∷ option_map_or (outward t) o []
  outward-step m None is e = outward-alone m is (sym e)
  outward-step m (Some c) is e = outward-outside m c is (sym e)
