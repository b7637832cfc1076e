-- What steps reach, and how many of them write: no step, one, and one way after another.
use Rattle.std.proofs.Common.{◌≡◌, ◌∙◌, ◌++◌, ◌+◌, ◌≤◌, ◌||◌, ℕ, arith, Bool, true, false, List, [], ◌∷◌, ap, refl, sym, subst}
use Rattle.std.specs.List.{AllByRecursion}
use Rattle.dm_maps.specs.World.{World}
use Rattle.dm_collector.specs.Steps.{Given, IsOf, IsReached, MapsOf, Step, StillShow, after_step, count, made, writes, writes_of}

module _ (d : MapsOf) where
  made-append : (xs ys : List Step) (w : World) → made d (xs ++ ys) w ≡ made d ys (made d xs w)
  made-append [] ys w = refl
  made-append (x ∷ xs) ys w = made-append xs ys (after_step d x w)

  writes-append : (xs ys : List Step) (w : World) → writes_of d (xs ++ ys) w ≡ writes_of d xs w + writes_of d ys (made d xs w)
  writes-append [] ys w = omega arith
  writes-append (x ∷ xs) ys w =
      let one : ℕ = count (writes d x w) in
      ap (λ n. one + n) (writes-append xs ys (after_step d x w)) ∙ sum one (writes_of d xs (after_step d x w)) (writes_of d ys (made d xs (after_step d x w)))
    where
      sum : (a b c : ℕ) → a + (b + c) ≡ a + b + c
      sum a b c = omega arith

own-append : (x : Given) (xs ys : List Step) → AllByRecursion (IsOf x) xs → AllByRecursion (IsOf x) ys → AllByRecursion (IsOf x) (xs ++ ys)
own-append x [] ys a b = b
own-append x (s ∷ xs) ys a b = (a.0, own-append x xs ys a.1 b)

both : (a b c d : ℕ) → a ≤ c → b ≤ d → a + b ≤ c + d
both a b c d h k = omega arith

-- one of two writes, or none does
or-less : (a b : Bool) → count (a || b) ≤ count a + count b
or-less true true = omega arith
or-less true false = omega arith
or-less false true = omega arith
or-less false false = omega arith

module _ (d : MapsOf) (x : Given) where
  -- no step
  pub reached-here : (w v : World) → v ≡ w → IsReached d x 0 w v
  reached-here w v same = record { steps = []; own = tt; world = same; enough = omega arith }

  -- fewer that write
  pub reached-less : (n m : ℕ) (w v : World) → n ≤ m → IsReached d x m w v → IsReached d x n w v
  reached-less n m w v less a = record { steps = a.steps; own = a.own; world = a.world; enough = under n m (writes_of d a.steps w) less a.enough }
    where
      under : (a b c : ℕ) → a ≤ b → b ≤ c → a ≤ c
      under a b c h k = omega arith

  -- one way after another
  pub reached-then : (n m : ℕ) (w v u : World) → IsReached d x n w v → IsReached d x m v u → IsReached d x (n + m) w u
  reached-then n m w v u a b = record {
    steps = a.steps ++ b.steps;
    own = own-append x a.steps b.steps a.own b.own;
    world = b.world ∙ ap (made d b.steps) a.world ∙ sym (made-append d a.steps b.steps w);
    enough = subst (λ k. n + m ≤ k) (sym (writes-append d a.steps b.steps w))
        (both n m (writes_of d a.steps w) (writes_of d b.steps (made d a.steps w)) a.enough (subst (λ (z : World). m ≤ writes_of d b.steps z) a.world b.enough));
  }

  -- the same, where it counts whether any wrote
  pub reached-or : (a b : Bool) (w v u : World) → IsReached d x (count a) w v → IsReached d x (count b) v u → IsReached d x (count (a || b)) w u
  reached-or a b w v u one two = reached-less (count (a || b)) (count a + count b) w u (or-less a b) (reached-then (count a) (count b) w v u one two)

  -- one step
  pub reached-by : (s : Step) (b : Bool) (w v : World) → IsOf x s → v ≡ after_step d s w → b ≡ writes d s w → IsReached d x (count b) w v
  reached-by s b w v of is same = record {
    steps = s ∷ [];
    own = (of, tt);
    world = is;
    enough = subst (λ c. count c ≤ count (writes d s w) + 0) (sym same) (less (count (writes d s w)));
  }
    where
      less : (n : ℕ) → n ≤ n + 0
      less n = omega arith

-- what shows what another showed
pub show-then : (w v u : World) → StillShow w v → StillShow v u → StillShow w u
show-then w v u one two g k ps h = two g k ps (one g k ps h)
