-- Along a circle places in an order would fall.
use Rattle.std.proofs.Common.{◌≡◌, ◌+◌, ◌-◌, ◌<◌, ◌≤◌, inl, inr, ℕ, zero, suc, List, [], length, get_or, arith, ap, sym, ◌∙◌, subst, add-one}
use Rattle.std.proofs.lemmas.List.{get_or_past}
use Rattle.std.proofs.lemmas.Bool.{cases_lt}
use Rattle.crate_items.specs.CrateGraphs.{DependsOn, IsCircle, IsOrder, row}

-- what depends on something is a crate of the graph
dependent-known : (rs : List (List ℕ)) (a b : ℕ) → DependsOn rs a b → a < length rs
dependent-known rs a b d = elim (cases_lt a (length rs)) [
  | inl lt ↦ lt
  | inr ge ↦ let none : length (row rs a) ≡ 0 = ap length (get_or_past rs a [] ge) in absurd (omega (arith, none, d.1))
]

module _ (rs : List (List ℕ)) (order circle : List ℕ) (is : IsOrder rs order) (round : IsCircle rs circle) where
  abbrev first : ℕ
  first = get_or circle 0 0

  -- the first crate depends on something, so it has a place in the order
  first-known : first < length rs
  first-known = elim (cases_lt 1 (length circle)) [
    | inl more ↦ dependent-known rs first _ (round.next 0 (omega (arith, more)))
    | inr one ↦
        let e : length circle - 1 ≡ 0 = omega (arith, one, round.some) in
        dependent-known rs first _ (subst (λ n. DependsOn rs (get_or circle n 0) first) e round.back)
  ]

  first-place : (j : ℕ) × (j < length order) × (get_or order j 0 ≡ first)
  first-place = is.all first first-known

  -- the k-th crate stands k places before the first, or more
  abbrev Falls : ℕ → Type 0
  Falls k = (j : ℕ) × (j < length order) × (get_or order j 0 ≡ get_or circle k 0) × (j + k ≤ first-place.0)

  falls : (k : ℕ) → k < length circle → Falls k
  falls zero w = (first-place.0, first-place.1, first-place.2, omega arith)
  falls (suc k) w =
      let here = falls k (omega arith) in
      let next : DependsOn rs (get_or circle k 0) (get_or circle (suc k) 0) = subst (λ n. DependsOn rs (get_or circle k 0) (get_or circle n 0)) (add-one k) (round.next k (omega (arith, w))) in
      let found = is.before here.0 (get_or circle (suc k) 0) here.1 (subst (λ a. DependsOn rs a (get_or circle (suc k) 0)) (sym here.2) next) in
      (found.0, omega (arith, found.1, here.1), found.2, omega (arith, found.1, here.3))

  pub no-circle : ⊥
  no-circle =
      let last = falls (length circle - 1) (omega (arith, round.some)) in
      let found = is.before last.0 first last.1 (subst (λ a. DependsOn rs a first) (sym last.2) round.back) in
      is.once found.0 first-place.0 (omega (arith, found.1, last.3)) first-place.1 (found.2 ∙ sym first-place.2)
