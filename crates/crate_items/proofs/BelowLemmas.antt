-- The way up from a module, step by step.
use Rattle.std.proofs.Common.{◌≡◌, ◌-◌, ◌+◌, ◌<◌, ◌∙◌, ℕ, zero, suc, true, false, List, ap, cond, arith}
use Rattle.std.specs.Prelude.{◌==◌, Some, None}
use Rattle.std.proofs.lemmas.Bool.{eq-eqb, ne_eqb}
use Rattle.crate_items.specs.DeclaredModules.{Module}
use Rattle.crate_items.specs.ModuleVisibilities.{below, parent_of}

-- the outer module is the parent
pub below_here : (k : ℕ) (ms : List Module) (outer n p : ℕ) → parent_of ms n ≡ Some p → p ≡ outer → below k ms outer n (parent_of ms n) ≡ Some n
below_here k ms outer n p at same = ap (below k ms outer n) at ∙ by k
  where
    is : (p == outer) ≡ true
    is = eq-eqb p outer same

    by : (k : ℕ) → below k ms outer n (Some p) ≡ Some n
    by zero = ap (λ b. cond b (Some n) None) is
    by (suc k) = ap (λ b. cond b (Some n) (below k ms outer p (parent_of ms p))) is

-- it is further up
pub below_next : (number counter : ℕ) (ms : List Module) (outer n p : ℕ) → counter < number → parent_of ms n ≡ Some p → (p ≡ outer → ⊥)
    → below (number - counter) ms outer n (parent_of ms n) ≡ below (number - (counter + 1)) ms outer p (parent_of ms p)
below_next number counter ms outer n p less at other =
    ap (λ k. below k ms outer n (parent_of ms n)) more ∙ ap (below (suc (number - (counter + 1))) ms outer n) at ∙ ap (λ b. cond b (Some n) (below (number - (counter + 1)) ms outer p (parent_of ms p))) is
  where
    is : (p == outer) ≡ false
    is = ne_eqb p outer other

    more : number - counter ≡ suc (number - (counter + 1))
    more = omega arith
