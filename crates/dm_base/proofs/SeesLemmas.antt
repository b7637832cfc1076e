-- Which modules see a visibility, in one def map: what a module sees, each module of its map that contains it sees too.
use Rattle.std.proofs.Common.{◌≡◌, ◌≤◌, ◌<◌, ℕ, zero, suc, Bool, true, false, ◌&&◌, ◌||◌, not, cond, [], List, Option, None, Some, find, unwrap_or, is_none, refl, sym, ap, ◌∙◌, arith, subst, true≢false, eq-eqb}
use Rattle.std.proofs.lemmas.Bool.{and_parts, and_from, or_right, ne_eqb}
use Rattle.std.specs.Option.{option_map_or, option_and_then, ForSome}
use Rattle.std.proofs.lemmas.Option.{same_Some}
use Rattle.dm_base.specs.declared.ids.ModuleId.{ModuleId}
use Rattle.dm_base.specs.declared.ids.MapId.{MapId}
use Rattle.dm_base.specs.declared.visibility.VisibilityExplicitness.{VisibilityExplicitness}
use Rattle.dm_base.specs.declared.visibility.Visibility.TheVariants.{Module}
use Rattle.dm_base.specs.Tree.{Tree, IsTree, IsKnown, same_module, same_crate, same_map, crate_of, containing, outside, chain, is_among, is_ancestor, outward_within, outward, lies_in, is_lifted, lift_to, lift, sees}
use Rattle.dm_base.specs.Visibility.{both_lie_in, max_of_modules, min_of_modules, IsUnion, IsIntersection, AreMostAndLeast}
use Rattle.dm_base.specs.IdLaws.{same_module-true, same_map-true, same_map-refl}
use Rattle.dm_base.specs.TreeLaws.{chain-step, outward-step}

-- one of two, by cases
or_either : {P : Type 0} (x y : Bool) → (x || y) ≡ true → (x ≡ true → P) → (y ≡ true → P) → P
or_either true y e left right = left refl
or_either false y e left right = right e

pub outward_within-stays : (t : Tree) (passes : ModuleId → Bool) (n : ℕ) (m : ModuleId) → passes m ≡ true → find passes (outward_within n t m) ≡ Some m
outward_within-stays t passes zero m e = ap (λ (b : Bool). cond b (Some m) None) e
outward_within-stays t passes (suc n) m e = ap (λ (b : Bool). cond b (Some m) (find passes (option_map_or (outward_within n t) (outside t m) []))) e

-- a module that lies in no block or in the map is lifted to itself
pub lift_to-stays : (t : Tree) (m : ModuleId) (map : MapId) → is_lifted t map m ≡ true → lift_to t m map ≡ m
lift_to-stays t m map e = ap (λ (o : Option ModuleId). unwrap_or o m) (outward_within-stays t (is_lifted t map) m.0 m e)

-- one test that implies another, before and behind it
or-absorbs : (x y : Bool) → (x ≡ true → y ≡ true) → y ≡ (x || y)
or-absorbs true y then = then refl
or-absorbs false y then = refl

or-absorbed : (x y : Bool) → (x ≡ true → y ≡ true) → y ≡ (y || x)
or-absorbed x true then = refl
or-absorbed true false then = then refl
or-absorbed false false then = refl

and-absorbs : (x y : Bool) → (x ≡ true → y ≡ true) → x ≡ (x && y)
and-absorbs true y then = sym (then refl)
and-absorbs false y then = refl

and-absorbed : (x y : Bool) → (x ≡ true → y ≡ true) → x ≡ (y && x)
and-absorbed x true then = refl
and-absorbed true false then = sym (then refl)
and-absorbed false false then = refl

-- the third of three tests, and the fourth of four
third : {A : Type 0} (p q r : Bool) (u v z e : A) → p ≡ false → q ≡ true → r ≡ true → z ≡ cond p u (cond (not q) v (cond r z e))
third p q r u v z e not_p is_q is_r = rw (not_p, is_q, is_r) refl

fourth : {A : Type 0} (p q r s : Bool) (u v w z e : A) → p ≡ false → q ≡ true → r ≡ false → s ≡ true → z ≡ cond p u (cond (not q) v (cond r w (cond s z e)))
fourth p q r s u v w z e not_p is_q not_r is_s = rw (not_p, is_q, not_r, is_s) refl

of-some : {A : Type 0} (P : A → Type 0) (v : A) → P v → ForSome (Some v) P
of-some P v p w e = subst P (same_Some v w e) p

pub lie-turned : (t : Tree) (map : MapId) (a b : ModuleId) → both_lie_in t map a b ≡ true → both_lie_in t map b a ≡ true
lie-turned t map a b e = let both = and_parts (lies_in t map a) (lies_in t map b) e in and_from _ _ both.1 both.0

module _ (t : Tree) (tree : IsTree t) where
  -- what stands in a chain is its module or contains it
  among-step : (a m : ModuleId) → IsKnown t m → is_among a (chain t m) ≡ (same_module a m || is_ancestor t a m)
  among-step a m known = ap (is_among a) (chain-step t tree m (containing t m) known refl) ∙ by (containing t m)
    where
      by : (o : Option ModuleId) → (same_module a m || is_among a (option_map_or (chain t) o [])) ≡ (same_module a m || option_map_or (λ c. is_among a (chain t c)) o false)
      by None = refl
      by (Some c) = refl

  ancestor-among : (a m : ModuleId) → IsKnown t m → is_ancestor t a m ≡ true → is_among a (chain t m) ≡ true
  ancestor-among a m known e = among-step a m known ∙ or_right _ _ e

  among-containing : (a c m : ModuleId) → IsKnown t m → containing t m ≡ Some c → is_among a (chain t c) ≡ true → is_among a (chain t m) ≡ true
  among-containing a c m known is e = ancestor-among a m known (ap (λ (o : Option ModuleId). option_map_or (λ d. is_among a (chain t d)) o false) is ∙ e)

  -- what holds of a module, and of each whose containing module has it, holds of each in whose chain the module stands
  along : (P : ModuleId → Type 0) (a : ModuleId) → P a → ((c m : ModuleId) → IsKnown t m → containing t m ≡ Some c → P c → P m)
      → (n : ℕ) (m : ModuleId) → IsKnown t m → m.0 ≤ n → is_among a (chain t m) ≡ true → P m
  along P a here further zero m known h e = or_either (same_module a m) (is_ancestor t a m) (sym (among-step a m known) ∙ e) (λ same. subst P (same_module-true a m same) here) (by (containing t m) refl)
    where
      by : (o : Option ModuleId) → containing t m ≡ o → option_map_or (λ c. is_among a (chain t c)) o false ≡ true → P m
      by None is above = absurd (true≢false (sym above))
      by (Some c) is above = let less = tree.containing_smaller m c known is in absurd (omega arith)
  along P a here further (suc n) m known h e = or_either (same_module a m) (is_ancestor t a m) (sym (among-step a m known) ∙ e) (λ same. subst P (same_module-true a m same) here) (by (containing t m) refl (λ c is less. along P a here further n c (tree.containing_known m c known is) (omega arith)))
    where
      by : (o : Option ModuleId) → containing t m ≡ o → ((c : ModuleId) → containing t m ≡ Some c → c.0 < m.0 → is_among a (chain t c) ≡ true → P c) → option_map_or (λ c. is_among a (chain t c)) o false ≡ true → P m
      by None is rest above = absurd (true≢false (sym above))
      by (Some c) is rest above = further c m known is (rest c is (tree.containing_smaller m c known is) above)

  -- what contains a module of a chain stands in the chain
  pub among-through : (a b f : ModuleId) → IsKnown t f → is_among b (chain t a) ≡ true → is_among a (chain t f) ≡ true → is_among b (chain t f) ≡ true
  among-through a b f known inner outer =
      along (λ m. is_among b (chain t m) ≡ true) a inner (λ c m knows is stands. among-containing b c m knows is stands) f.0 f known (omega arith) outer

  among-smaller : (a m : ModuleId) → IsKnown t m → is_among a (chain t m) ≡ true → a.0 ≤ m.0
  among-smaller a m known e =
      along (λ c. a.0 ≤ c.0) a (omega arith) (λ c d knows is stands. (let less = tree.containing_smaller d c knows is in omega arith)) m.0 m known (omega arith) e

  -- an ancestor has a smaller number
  ancestor-smaller : (a m : ModuleId) → IsKnown t m → is_ancestor t a m ≡ true → a.0 < m.0
  ancestor-smaller a m known e = by (containing t m) refl e
    where
      by : (o : Option ModuleId) → containing t m ≡ o → option_map_or (λ c. is_among a (chain t c)) o false ≡ true → a.0 < m.0
      by None is above = absurd (true≢false (sym above))
      by (Some c) is above =
          let less = tree.containing_smaller m c known is in
          let within = among-smaller a c (tree.containing_known m c known is) above in
          omega arith

  -- of two modules one at most is the other's ancestor
  ancestor-turned : (a b : ModuleId) → IsKnown t a → IsKnown t b → is_ancestor t b a ≡ true → is_ancestor t a b ≡ false
  ancestor-turned a b known_a known_b e = by (is_ancestor t a b) refl
    where
      by : (x : Bool) → is_ancestor t a b ≡ x → x ≡ false
      by true is = let down = ancestor-smaller a b known_b is in let up = ancestor-smaller b a known_a e in absurd (omega arith)
      by false is = refl

  -- where b contains a in one map, b is lifted into the chain of f if a is
  among-lifted : (a b f : ModuleId) (map : MapId) → IsKnown t a → IsKnown t b → IsKnown t f → t.map_of a ≡ t.map_of b → is_among b (chain t a) ≡ true
      → is_among (lift_to t a map) (chain t f) ≡ true → is_among (lift_to t b map) (chain t f) ≡ true
  among-lifted a b f map known_a known_b known_f one inner outer = by (is_lifted t map a) refl
    where
      stands : (c d : ModuleId) → lift_to t a map ≡ c → lift_to t b map ≡ d → (is_among c (chain t f) ≡ true → is_among d (chain t f) ≡ true) → is_among (lift_to t b map) (chain t f) ≡ true
      stands c d is_a is_b then = ap (λ (m : ModuleId). is_among m (chain t f)) is_b ∙ then (ap (λ (m : ModuleId). is_among m (chain t f)) (sym is_a) ∙ outer)

      passes : is_lifted t map b ≡ is_lifted t map a
      passes = ap (λ (i : MapId). is_none i.block || same_map i map) (sym one)

      outwards : outside t b ≡ outside t a
      outwards = ap (λ (i : MapId). option_and_then t.inside i.block) (sym one)

      moves : (m : ModuleId) (o : Option ModuleId) → IsKnown t m → o ≡ outside t m → is_lifted t map m ≡ false → lift_to t m map ≡ unwrap_or (find (is_lifted t map) (option_map_or (outward t) o [])) m
      moves m o known is e =
          ap (λ (l : List ModuleId). unwrap_or (find (is_lifted t map) l) m) (outward-step t tree m o known is)
          ∙ ap (λ (b : Bool). unwrap_or (cond b (Some m) (find (is_lifted t map) (option_map_or (outward t) o []))) m) e

      found : (o : Option ModuleId) → lift_to t a map ≡ unwrap_or o a → lift_to t b map ≡ unwrap_or o b → is_among (lift_to t b map) (chain t f) ≡ true
      found None is_a is_b = stands a b is_a is_b (among-through a b f known_f inner)
      found (Some c) is_a is_b = stands c c is_a is_b (λ e. e)

      by : (x : Bool) → is_lifted t map a ≡ x → is_among (lift_to t b map) (chain t f) ≡ true
      by true is = stands a b (lift_to-stays t a map is) (lift_to-stays t b map (passes ∙ is)) (among-through a b f known_f inner)
      by false is = found (find (is_lifted t map) (option_map_or (outward t) (outside t a) [])) (moves a (outside t a) known_a refl is) (moves b (outside t a) known_b (sym outwards) (passes ∙ is))

  -- what a module sees, each of its map that contains it sees
  sees-within : (a b f : ModuleId) (x y : VisibilityExplicitness) → IsKnown t a → IsKnown t b → IsKnown t f → t.map_of a ≡ t.map_of b → is_ancestor t b a ≡ true → sees t (Module a x) f ≡ true → sees t (Module b y) f ≡ true
  sees-within a b f x y known_a known_b known_f one above e =
      or_either (same_module f a) (same_crate (crate_of t f) (crate_of t a) && is_among (lift t a f) (chain t f)) e
      (λ same. subst (λ m. sees t (Module b y) m ≡ true) (sym (same_module-true f a same)) itself)
      (λ both. let parts = and_parts (same_crate (crate_of t f) (crate_of t a)) (is_among (lift t a f) (chain t f)) both in
      or_right _ _ (and_from _ _ (ap (λ (i : MapId). same_crate (crate_of t f) i.krate) (sym one) ∙ parts.0) (among-lifted a b f (t.map_of f) known_a known_b known_f one contains parts.1)))
    where
      contains : is_among b (chain t a) ≡ true
      contains = ancestor-among b a known_a above

      here : is_lifted t (t.map_of a) b ≡ true
      here = or_right _ _ (ap (λ (i : MapId). same_map i (t.map_of a)) (sym one) ∙ same_map-refl (t.map_of a))

      itself : sees t (Module b y) a ≡ true
      itself = or_right _ _ (and_from _ _ (ap (λ (i : MapId). same_crate (crate_of t a) i.krate) (sym one) ∙ eq-eqb _ _ refl) (ap (λ (m : ModuleId). is_among m (chain t a)) (lift_to-stays t b (t.map_of a) here) ∙ contains))

  -- both lie in one map where both lie in this one
  one-map : (map : MapId) (a b : ModuleId) → both_lie_in t map a b ≡ true → t.map_of a ≡ t.map_of b
  one-map map a b e =
      let both = and_parts (lies_in t map a) (lies_in t map b) e in
      same_map-true (t.map_of a) map both.0 ∙ sym (same_map-true (t.map_of b) map both.1)

  -- who sees one of them or the other, and who sees both, where b contains a
  module _ (map : MapId) (a b : ModuleId) (x y : VisibilityExplicitness) (known_a : IsKnown t a) (known_b : IsKnown t b) (lie : both_lie_in t map a b ≡ true) (above : is_ancestor t b a ≡ true) where
    union-with-outer : IsUnion t (Module a x) (Module b y) (Module b y)
    union-with-outer f known = or-absorbs _ _ (sees-within a b f x y known_a known_b known (one-map map a b lie) above)

    union-of-outer : IsUnion t (Module b y) (Module a x) (Module b y)
    union-of-outer f known = or-absorbed _ _ (sees-within a b f x y known_a known_b known (one-map map a b lie) above)

    intersection-with-outer : IsIntersection t (Module a x) (Module b y) (Module a x)
    intersection-with-outer f known = and-absorbs _ _ (sees-within a b f x y known_a known_b known (one-map map a b lie) above)

    intersection-of-outer : IsIntersection t (Module b y) (Module a x) (Module a x)
    intersection-of-outer f known = and-absorbed _ _ (sees-within a b f x y known_a known_b known (one-map map a b lie) above)

    apart : same_module b a ≡ false
    apart = let down = ancestor-smaller b a known_a above in ne_eqb b.0 a.0 (λ e. absurd (omega arith))

    apart-straight : same_module a b ≡ false
    apart-straight = let down = ancestor-smaller b a known_a above in ne_eqb a.0 b.0 (λ e. absurd (omega arith))

    max-turned : Some (Module b y) ≡ max_of_modules t map b y a x
    max-turned = fourth (same_module b a) (both_lie_in t map b a) (is_ancestor t a b) (is_ancestor t b a) _ _ _ _ _ apart (lie-turned t map a b lie) (ancestor-turned a b known_a known_b above) above

    min-turned : Some (Module a x) ≡ min_of_modules t map b y a x
    min-turned = fourth (same_module b a) (both_lie_in t map b a) (is_ancestor t a b) (is_ancestor t b a) _ _ _ _ _ apart (lie-turned t map a b lie) (ancestor-turned a b known_a known_b above) above

    max-straight : Some (Module b y) ≡ max_of_modules t map a x b y
    max-straight = third (same_module a b) (both_lie_in t map a b) (is_ancestor t b a) _ _ _ _ apart-straight lie above

    min-straight : Some (Module a x) ≡ min_of_modules t map a x b y
    min-straight = third (same_module a b) (both_lie_in t map a b) (is_ancestor t b a) _ _ _ _ apart-straight lie above

    -- the outer module's is the most permissive, the inner one's the least, in either order
    pub with-outer : AreMostAndLeast t map (Module a x) (Module b y) (Some (Module b y, Module a x))
    with-outer = record {
      most = record { table = max-straight; either_order = max-turned; union = of-some (IsUnion t (Module a x) (Module b y)) _ union-with-outer };
      least = record { table = min-straight; either_order = min-turned; intersection = of-some (IsIntersection t (Module a x) (Module b y)) _ intersection-with-outer };
    }

    pub of-outer : AreMostAndLeast t map (Module b y) (Module a x) (Some (Module b y, Module a x))
    of-outer = record {
      most = record { table = max-turned; either_order = max-straight; union = of-some (IsUnion t (Module b y) (Module a x)) _ union-of-outer };
      least = record { table = min-turned; either_order = min-straight; intersection = of-some (IsIntersection t (Module b y) (Module a x)) _ intersection-of-outer };
    }
