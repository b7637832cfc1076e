-- Hops along the chains of a lawful tree.
use Rattle.std.proofs.Common.{◌≡◌, ◌≤◌, ◌<◌, ◌+◌, ◌-◌, ℕ, zero, suc, Bool, true, false, ◌||◌, List, [], ◌∷◌, Option, None, Some, refl, sym, ap, ◌∙◌, subst, arith, true≢false, length, count_ones, unwrap_or, min, slice_index_or}
use Rattle.std.proofs.lemmas.Bool.{ne_eqb}
use Rattle.std.proofs.lemmas.List.{get_or_default}
use Rattle.std.specs.Option.{option_map_or}
use Rattle.dm_base.specs.declared.ids.ModuleId.{ModuleId}
use Rattle.dm_base.specs.Tree.{Tree, IsTree, IsKnown, same_module, containing, chain_within, chain, is_among}
use Rattle.dm_base.specs.IdLaws.{same_module-true}
use Rattle.dm_base.specs.TreeLaws.{chain-containing, chain-alone}
use Rattle.dm_maps.specs.Ancestry.{depth, member, moves}
use Rattle.dm_maps.specs.JumpPointers.{up, climb}

module _ (t : Tree) where
  -- steps, and then more steps, are all of them
  pub climb-add : (i j : ℕ) (m : ModuleId) → climb t (i + j) m ≡ climb t j (climb t i m)
  climb-add zero j m = let e : zero + j ≡ j = omega arith in ap (λ n. climb t n m) e
  climb-add (suc i) j m = let e : suc i + j ≡ suc (i + j) = omega arith in ap (λ n. climb t n m) e ∙ climb-add i j (up t m)

  -- a chain is as long as the depth, and one more
  within-length : (n : ℕ) (m : ModuleId) → length (chain_within n t m) ≡ suc (length (chain_within n t m) - 1)
  within-length zero m = refl
  within-length (suc n) m = omega arith

  pub chain-length : (m : ModuleId) → length (chain t m) ≡ suc (depth t m)
  chain-length m = within-length m.0 m

  -- of different depths are different modules
  pub differ : (a m : ModuleId) → depth t m < depth t a → same_module a m ≡ false
  differ a m less = ne_eqb a.0 m.0 (λ e. (let same : depth t a ≡ depth t m = (λ i. depth t (record { 0 = e i })) in absurd (omega arith)))

  pub differ-deeper : (a m : ModuleId) → depth t a < depth t m → same_module a m ≡ false
  differ-deeper a m less = ne_eqb a.0 m.0 (λ e. (let same : depth t a ≡ depth t m = (λ i. depth t (record { 0 = e i })) in absurd (omega arith)))

or-false : (b : Bool) → (b || false) ≡ b
or-false true = refl
or-false false = refl

module _ (t : Tree) (tree : IsTree t) where
  -- ---- Depth.

  pub depth-containing : (m c : ModuleId) → IsKnown t m → containing t m ≡ Some c → depth t m ≡ suc (depth t c)
  depth-containing m c known e =
      let one : length (chain t m) ≡ suc (length (chain t c)) = ap length (chain-containing t tree m c known e) in
      let this = chain-length t m in
      let next = chain-length t c in
      omega arith

  pub depth-alone : (m : ModuleId) → IsKnown t m → containing t m ≡ None → depth t m ≡ 0
  depth-alone m known e = ap (λ (l : List ModuleId). length l - 1) (chain-alone t tree m known e)

  -- ---- Hops.

  pub climb-alone : (n : ℕ) (m : ModuleId) → containing t m ≡ None → climb t n m ≡ m
  climb-alone zero m e = refl
  climb-alone (suc n) m e = ap (λ o. climb t n (unwrap_or o m)) e ∙ climb-alone n m e

  up-known : (m : ModuleId) → IsKnown t m → IsKnown t (up t m)
  up-known m known = by (containing t m) refl
    where
      by : (o : Option ModuleId) → containing t m ≡ o → IsKnown t (unwrap_or o m)
      by None e = known
      by (Some c) e = tree.containing_known m c known e

  pub climb-known : (n : ℕ) (m : ModuleId) → IsKnown t m → IsKnown t (climb t n m)
  climb-known zero m known = known
  climb-known (suc n) m known = climb-known n (up t m) (up-known m known)

  -- ---- What stands in a chain.

  -- no module stands in the chain of one that is less deep
  less_deep-step : (a m : ModuleId) → IsKnown t m → depth t m < depth t a → ((c : ModuleId) → containing t m ≡ Some c → is_among a (chain t c) ≡ false) → is_among a (chain t m) ≡ false
  less_deep-step a m known less rest = by (containing t m) refl
    where
      by : (o : Option ModuleId) → containing t m ≡ o → is_among a (chain t m) ≡ false
      by None e = ap (is_among a) (chain-alone t tree m known e) ∙ ap (λ b. b || false) (differ t a m less)
      by (Some c) e = ap (is_among a) (chain-containing t tree m c known e) ∙ (λ i. differ t a m less i || rest c e i)

  less_deep-within : (n : ℕ) (a m : ModuleId) → m.0 ≤ n → IsKnown t m → depth t m < depth t a → is_among a (chain t m) ≡ false
  less_deep-within zero a m h known less = less_deep-step a m known less (λ c e. (let smaller = tree.containing_smaller m c known e in absurd (omega arith)))
  less_deep-within (suc n) a m h known less =
      less_deep-step a m known less (λ c e. (let smaller = tree.containing_smaller m c known e in let deeper = depth-containing m c known e in less_deep-within n a c (omega arith) (tree.containing_known m c known e) (omega arith)))

  pub among-less_deep : (a m : ModuleId) → IsKnown t m → depth t m < depth t a → is_among a (chain t m) ≡ false
  among-less_deep a m known less = less_deep-within m.0 a m (omega arith) known less

  -- a module stands in the chain of one that is n deeper exactly if n steps lead to it
  among-deeper : (n : ℕ) (a m : ModuleId) → IsKnown t m → depth t m ≡ n + depth t a → is_among a (chain t m) ≡ same_module a (climb t n m)
  among-deeper zero a m known h = by (containing t m) refl
    where
      by : (o : Option ModuleId) → containing t m ≡ o → is_among a (chain t m) ≡ same_module a m
      by None e = ap (is_among a) (chain-alone t tree m known e) ∙ or-false (same_module a m)
      by (Some c) e =
          let deeper = depth-containing m c known e in
          ap (is_among a) (chain-containing t tree m c known e)
          ∙ ap (λ b. same_module a m || b) (among-less_deep a c (tree.containing_known m c known e) (omega arith))
          ∙ or-false (same_module a m)
  among-deeper (suc n) a m known h = by (containing t m) refl (among-deeper n a)
    where
      by : (o : Option ModuleId) → containing t m ≡ o → ((c : ModuleId) → IsKnown t c → depth t c ≡ n + depth t a → is_among a (chain t c) ≡ same_module a (climb t n c)) → is_among a (chain t m) ≡ same_module a (climb t n (unwrap_or (containing t m) m))
      by None e rest = let alone = depth-alone m known e in absurd (omega arith)
      by (Some c) e rest =
          let deeper = depth-containing m c known e in
          ap (is_among a) (chain-containing t tree m c known e)
          ∙ ap (λ b. b || is_among a (chain t c)) (differ-deeper t a m (omega arith))
          ∙ rest c (tree.containing_known m c known e) (omega arith)
          ∙ ap (λ o. same_module a (climb t n (unwrap_or o m))) (sym e)

  pub among-climb : (a m : ModuleId) → IsKnown t m → depth t a ≤ depth t m → is_among a (chain t m) ≡ same_module a (climb t (depth t m - depth t a) m)
  among-climb a m known h = among-deeper (depth t m - depth t a) a m known (omega arith)

  -- what stands in the chain of a module of the tree is one too
  among-known-step : (a m : ModuleId) → IsKnown t m → ((c : ModuleId) → containing t m ≡ Some c → is_among a (chain t c) ≡ true → IsKnown t a) → is_among a (chain t m) ≡ true → IsKnown t a
  among-known-step a m known rest e = by (containing t m) refl
    where
      here : same_module a m ≡ true → IsKnown t a
      here is = subst (IsKnown t) (sym (same_module-true a m is)) known

      at : (b : Bool) → same_module a m ≡ b → (l : List ModuleId) → chain t m ≡ m ∷ l → (is_among a l ≡ true → IsKnown t a) → IsKnown t a
      at true is l g then = here is
      at false is l g then = then (sym (ap (λ b. b || is_among a l) is) ∙ sym (ap (is_among a) g) ∙ e)

      by : (o : Option ModuleId) → containing t m ≡ o → IsKnown t a
      by None g = at (same_module a m) refl [] (chain-alone t tree m known g) (λ f. absurd (true≢false (sym f)))
      by (Some c) g = at (same_module a m) refl (chain t c) (chain-containing t tree m c known g) (rest c g)

  among-known-within : (n : ℕ) (a m : ModuleId) → m.0 ≤ n → IsKnown t m → is_among a (chain t m) ≡ true → IsKnown t a
  among-known-within zero a m h known = among-known-step a m known (λ c e. (let smaller = tree.containing_smaller m c known e in absurd (omega arith)))
  among-known-within (suc n) a m h known = among-known-step a m known (λ c e. (let smaller = tree.containing_smaller m c known e in among-known-within n a c (omega arith) (tree.containing_known m c known e)))

  pub among-known : (a m : ModuleId) → IsKnown t m → is_among a (chain t m) ≡ true → IsKnown t a
  among-known a m known = among-known-within m.0 a m (omega arith) known

  -- ---- Members of chains.

  -- the first of a chain is its module
  first : (n : ℕ) (m : ModuleId) → (l : List ModuleId) × (chain_within n t m ≡ m ∷ l)
  first zero m = ([], refl)
  first (suc n) m = (option_map_or (chain_within n t) (containing t m) [], refl)

  -- entry n of a list, or its last
  abbrev entry : List ModuleId → ℕ → ModuleId → ModuleId
  entry ms n m = slice_index_or ms (min n (length ms - 1)) m

  -- the member of a chain is where as many steps lead
  pub member-climb : (n : ℕ) (m : ModuleId) → IsKnown t m → member t n m ≡ climb t n m
  member-climb zero m known =
      let from = first m.0 m in
      let none : min 0 (length (chain t m) - 1) ≡ 0 = omega arith in
      ap (λ i. slice_index_or (chain t m) i m) none ∙ ap (λ l. slice_index_or l 0 m) from.1
  member-climb (suc n) m known = by (containing t m) refl (member-climb n)
    where
      by : (o : Option ModuleId) → containing t m ≡ o → ((c : ModuleId) → IsKnown t c → member t n c ≡ climb t n c) → entry (chain t m) (suc n) m ≡ climb t n (unwrap_or (containing t m) m)
      by None e rest =
          let none : min (suc n) (length (m ∷ []) - 1) ≡ 0 = omega arith in
          ap (λ l. entry l (suc n) m) (chain-alone t tree m known e)
          ∙ ap (λ i. slice_index_or (m ∷ []) i m) none
          ∙ sym (climb-alone (suc n) m e)
      by (Some c) e rest =
          let long = chain-length t c in
          let next : min (suc n) (length (m ∷ chain t c) - 1) ≡ suc (min n (length (chain t c) - 1)) = omega arith in
          ap (λ l. entry l (suc n) m) (chain-containing t tree m c known e)
          ∙ ap (λ i. slice_index_or (m ∷ chain t c) i m) next
          ∙ get_or_default (chain t c) (min n (length (chain t c) - 1)) m c (omega arith)
          ∙ rest c (tree.containing_known m c known e)
          ∙ ap (λ o. climb t n (unwrap_or o m)) (sym e)

  -- two hops along a chain are one of their sum
  pub member-add : (i j : ℕ) (m : ModuleId) → IsKnown t m → member t (i + j) m ≡ member t j (member t i m)
  member-add i j m known =
      member-climb (i + j) m known
      ∙ climb-add t i j m
      ∙ sym (member-climb j (climb t i m) (climb-known i m known))
      ∙ ap (member t j) (sym (member-climb i m known))

-- ---- Trees that agree on what contains their modules.

module _ (s t : Tree) (tree : IsTree s) (same : (m : ModuleId) → IsKnown s m → containing s m ≡ containing t m) where
  within-agree : (n : ℕ) (m : ModuleId) → IsKnown s m → chain_within n s m ≡ chain_within n t m
  within-agree zero m known = refl
  within-agree (suc n) m known = by (containing s m) refl (λ c e. within-agree n c (tree.containing_known m c known e))
    where
      by : (o : Option ModuleId) → containing s m ≡ o → ((c : ModuleId) → containing s m ≡ Some c → chain_within n s c ≡ chain_within n t c)
          → m ∷ option_map_or (chain_within n s) (containing s m) [] ≡ m ∷ option_map_or (chain_within n t) (containing t m) []
      by None e rest = ap (λ o. m ∷ option_map_or (chain_within n s) o []) e ∙ ap (λ o. m ∷ option_map_or (chain_within n t) o []) (sym e ∙ same m known)
      by (Some c) e rest =
          ap (λ o. m ∷ option_map_or (chain_within n s) o []) e
          ∙ ap (λ l. m ∷ l) (rest c e)
          ∙ ap (λ o. m ∷ option_map_or (chain_within n t) o []) (sym e ∙ same m known)

  pub chains-agree : (m : ModuleId) → IsKnown s m → chain s m ≡ chain t m
  chains-agree m known = within-agree m.0 m known

  pub moves-agree : (a m : ModuleId) → IsKnown s a → IsKnown s m → moves s a m ≡ moves t a m
  moves-agree a m ancestor known = λ i. count_ones ((length (chains-agree m known i) - 1) - (length (chains-agree a ancestor i) - 1))
