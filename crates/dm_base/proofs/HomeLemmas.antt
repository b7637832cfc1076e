-- The chain of a module without the roots of blocks, and the way to the nearest module that is none.
use Rattle.std.proofs.Common.{◌≡◌, ◌≤◌, ℕ, zero, suc, Bool, true, false, ◌&&◌, not, cond, List, [], ◌∷◌, Option, Some, None, is_some, is_none, refl, sym, ap, ◌∙◌, arith, filter, slice_get, unwrap_or, true≢false, eq-eqb}
use Rattle.std.proofs.lemmas.Bool.{and_parts, ne_eqb}
use Rattle.std.specs.Option.{option_map_or, option_or, option_and_then, option_eq}
use Rattle.dm_base.specs.declared.ids.ModuleId.{ModuleId}
use Rattle.dm_base.specs.declared.ids.MapId.{MapId}
use Rattle.dm_base.specs.Tree.{Tree, IsTree, IsKnown, same_module, in_block_map, containing, outside, chain_within, chain, is_block_root, outer, home, up_to, homeward}
use Rattle.dm_base.specs.TreeLaws.{chain-containing}

module _ (t : Tree) where
  abbrev outside_blocks : List ModuleId → List ModuleId
  outside_blocks ms = filter (λ c. not (is_block_root t c)) ms

  -- a chain begins with its module
  chain-head : (n : ℕ) (m : ModuleId) → (l : List ModuleId) × (chain_within n t m ≡ m ∷ l)
  chain-head zero m = ([], refl)
  chain-head (suc n) m = (option_map_or (chain_within n t) (containing t m) [], refl)

  -- a block's root is left out
  outer-root : (m : ModuleId) (l : List ModuleId) → is_block_root t m ≡ true → chain t m ≡ m ∷ l → outer t m ≡ outside_blocks l
  outer-root m l is e = ap outside_blocks e ∙ ap (λ (b : Bool). cond (not b) (m ∷ outside_blocks l) (outside_blocks l)) is

  -- another module stays
  outer-stays : (m : ModuleId) (l : List ModuleId) → is_block_root t m ≡ false → chain t m ≡ m ∷ l → outer t m ≡ m ∷ outside_blocks l
  outer-stays m l is e = ap outside_blocks e ∙ ap (λ (b : Bool). cond (not b) (m ∷ outside_blocks l) (outside_blocks l)) is

  -- from a module that is no block's root the chain without them begins with it
  outer-first : (m : ModuleId) → is_block_root t m ≡ false → slice_get (outer t m) 0 ≡ Some m
  outer-first m is = let h = chain-head m.0 m in ap (λ l. slice_get l 0) (outer-stays m h.0 is h.1)

  -- m has the home h, and from both the chains without roots of blocks are the same
  record HasHome (m h : ModuleId) : Type 0 where
    no_root : is_block_root t h ≡ false
    same_outer : outer t m ≡ outer t h

  home-of : (m h : ModuleId) → HasHome m h → home t m ≡ h
  home-of m h has = ap (λ o. unwrap_or o m) (ap (λ l. slice_get l 0) has.same_outer ∙ outer-first h has.no_root)

-- a module that has a home, with that home
abbrev Homed : Tree → ModuleId → Type 0
Homed t m = (h : ModuleId) × HasHome t m h

module _ (t : Tree) (tree : IsTree t) where
  -- a module of a block is the block's root exactly where what contains it is what contains the block
  pub root-test : (m : ModuleId) → IsKnown t m → in_block_map t m ≡ true → option_eq same_module (containing t m) (outside t m) ≡ is_block_root t m
  root-test m known in_block = by (t.parent m) (outside t m) refl refl
    where
      differ : (p o : ModuleId) → t.parent m ≡ Some p → outside t m ≡ Some o → same_module p o ≡ false
      differ p o e f =
          let knows = tree.containing_known m p known (ap (λ x. option_or x (outside t m)) e) in
          let around : outside t p ≡ Some o = ap (λ (i : MapId). option_and_then t.inside i.block) (tree.parent_map m p known e) ∙ f in
          let less = tree.outside_smaller p o knows around in
          ne_eqb p.0 o.0 (λ n. absurd (omega arith))

      by : (p o : Option ModuleId) → t.parent m ≡ p → outside t m ≡ o → option_eq same_module (option_or (t.parent m) (outside t m)) (outside t m) ≡ (in_block_map t m && is_none (t.parent m))
      by p None e f = absurd (true≢false (sym in_block ∙ sym (tree.outside_there m known) ∙ ap is_some f))
      by None (Some o) e f =
          (λ i. option_eq same_module (option_or (e i) (f i)) (f i)) ∙ eq-eqb o.0 o.0 refl ∙ sym (λ i. in_block i && is_none (e i))
      by (Some p) (Some o) e f =
          (λ i. option_eq same_module (option_or (e i) (f i)) (f i)) ∙ differ p o e f ∙ sym (λ i. in_block i && is_none (e i))

  -- what contains a block's root is what contains the block
  root-containing : (m : ModuleId) → is_block_root t m ≡ true → containing t m ≡ outside t m
  root-containing m is = by (t.parent m) refl
    where
      by : (o : Option ModuleId) → t.parent m ≡ o → option_or (t.parent m) (outside t m) ≡ outside t m
      by None e = ap (λ o. option_or o (outside t m)) e
      by (Some p) e = absurd (true≢false (sym (and_parts (in_block_map t m) (is_none (t.parent m)) is).1 ∙ ap is_none e))

  -- and it is there
  root-inside : (m : ModuleId) → IsKnown t m → is_block_root t m ≡ true → is_some (outside t m) ≡ true
  root-inside m known is = tree.outside_there m known ∙ (and_parts (in_block_map t m) (is_none (t.parent m)) is).0

  chain-root : (m o : ModuleId) → IsKnown t m → is_block_root t m ≡ true → outside t m ≡ Some o → chain t m ≡ m ∷ chain t o
  chain-root m o known is e = chain-containing t tree m o known (root-containing m is ∙ e)

  -- without roots of blocks, the chain of a block's root is that of the module that contains the block
  pub outer-outside : (m o : ModuleId) → IsKnown t m → is_block_root t m ≡ true → outside t m ≡ Some o → outer t m ≡ outer t o
  outer-outside m o known is e = outer-root t m (chain t o) is (chain-root m o known is e)

  -- each module has a home
  homed-step : (m : ModuleId) → IsKnown t m → ((o : ModuleId) → outside t m ≡ Some o → Homed t o) → Homed t m
  homed-step m known rest = by (is_block_root t m) refl
    where
      from : (o : Option ModuleId) → is_block_root t m ≡ true → outside t m ≡ o → Homed t m
      from None is e = absurd (true≢false (sym (root-inside m known is) ∙ ap is_some e))
      from (Some o) is e = let r = rest o e in (r.0, record { no_root = r.1.no_root; same_outer = outer-outside m o known is e ∙ r.1.same_outer })

      by : (b : Bool) → is_block_root t m ≡ b → Homed t m
      by true is = from (outside t m) is refl
      by false is = (m, record { no_root = is; same_outer = refl })

  homed-within : (n : ℕ) (m : ModuleId) → IsKnown t m → m.0 ≤ n → Homed t m
  homed-within zero m known h = homed-step m known (λ o e. (let less = tree.outside_smaller m o known e in absurd (omega arith)))
  homed-within (suc n) m known h =
      homed-step m known (λ o e. (let less = tree.outside_smaller m o known e in homed-within n o (tree.outside_known m o known e) (omega arith)))

  homed : (m : ModuleId) → IsKnown t m → Homed t m
  homed m known = homed-within m.0 m known (omega arith)

  -- a block's root has the home of the module that contains the block
  home-outside : (m o : ModuleId) → IsKnown t m → is_block_root t m ≡ true → outside t m ≡ Some o → home t m ≡ home t o
  home-outside m o known is e =
      let r = homed o (tree.outside_known m o known e) in
      home-of t m r.0 (record { no_root = r.1.no_root; same_outer = outer-outside m o known is e ∙ r.1.same_outer }) ∙ sym (home-of t o r.0 r.1)

  -- and its way home goes on from there
  way-outside : (m o : ModuleId) → IsKnown t m → is_block_root t m ≡ true → outside t m ≡ Some o → homeward t m ≡ m ∷ homeward t o
  way-outside m o known is e =
      let r = homed o (tree.outside_known m o known e) in
      let other : same_module m (home t o) ≡ false = ne_eqb m.0 (home t o).0 (λ n. (let same : m ≡ home t o = (λ i. record { 0 = n i }) in true≢false (sym is ∙ ap (is_block_root t) (same ∙ home-of t o r.0 r.1) ∙ r.1.no_root))) in
      (λ i. up_to (home-outside m o known is e i) (chain-root m o known is e i)) ∙ ap (λ b. m ∷ cond b [] (homeward t o)) other

  -- the same, of the answer of a look outside
  pub home-step : (m : ModuleId) (o : Option ModuleId) → IsKnown t m → is_block_root t m ≡ true → o ≡ outside t m → home t m ≡ option_map_or (home t) o m
  home-step m None known is e = absurd (true≢false (sym (root-inside m known is) ∙ sym (ap is_some e)))
  home-step m (Some o) known is e = home-outside m o known is (sym e)

  pub way-step : (m : ModuleId) (o : Option ModuleId) → IsKnown t m → is_block_root t m ≡ true → o ≡ outside t m → homeward t m ≡ m ∷ option_map_or (homeward t) o []
  way-step m None known is e = absurd (true≢false (sym (root-inside m known is) ∙ sym (ap is_some e)))
  way-step m (Some o) known is e = way-outside m o known is (sym e)
