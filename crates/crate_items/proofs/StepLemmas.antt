-- What a step of a search does.
use Rattle.std.proofs.Common.{◌≡◌, ◌+◌, ◌-◌, ◌<◌, ◌∷◌, [], ◌⊎◌, inl, inr, ℕ, List, Option, Some, None, length, take, drop, replicate, sum, All, get_or, set, refl, arith, ap, sym, ◌∙◌, subst}
use Rattle.std.proofs.lemmas.List.{get_or_append_left, get_or_push, get_or-take, get_or-map, get_or-replicate, length_push, length-map, length-replicate, length-take-le, get_or_past, get_or_default}
use Rattle.std.proofs.lemmas.List.Elements.{All-map}
use Rattle.std.proofs.lemmas.List.Sums.{sum_by-set}
use Rattle.std.proofs.lemmas.Bool.{cases_eq, cases_lt}
use Rattle.crate_items.specs.CrateGraphs.{AreInside, Data, DependsOn, Graph, IsCircle, IsGraph, IsOrder, needs, row, rows}
use Rattle.crate_items.specs.declared.files.dependency.Dependency.{Dependency}
use Rattle.crate_items.specs.OrderSearch.{GoesOn, HasBegun, IsBelow, IsLast, IsSearch, Meets, State, closed, left_of, looked, opened, place_of, started}
use Rattle.crate_items.proofs.SearchLemmas.{IsCircle-drop, IsSearch-closed, IsSearch-looked, IsSearch-opened, at-set}

-- the last crate of the path is a crate, and not in the order
pub last-known : (rs : List (List ℕ)) (s : State) (c : ℕ) → IsSearch rs s → IsLast s c → (c < length rs) × (0 < left_of s c)
last-known rs s c is last =
    let h = is.on_path last.0 (omega (arith, last.1)) in
    (subst (λ x. x < length rs) last.2 h.0, subst (λ x. 0 < left_of s x) last.2 h.1)

-- a write that makes one number less by one makes the sum less by one
less-by-one : (xs : List ℕ) (i v : ℕ) → i < length xs → v + 1 ≡ get_or xs i 0 → sum (set xs i v) + 1 ≡ sum xs
less-by-one xs i v within e = let h = sum_by-set (λ x. x) xs i v 0 within in omega (arith, h, e)

begun-opened : (s : State) (d r : ℕ) → HasBegun s r → HasBegun (opened d s) r
begun-opened s d r h = elim h [
  | inl z ↦ inl z
  | inr first ↦ inr (omega (arith, length_push s.path d), get_or_append_left s.path (d ∷ []) 0 0 first.0 ∙ first.1)
]

pub meets-opened : (rs : List (List ℕ)) (s : State) (c next : ℕ) → IsSearch rs s → IsLast s c → next < length rs → 0 < left_of s next → place_of s next ≡ None → DependsOn rs c next
    → Meets rs s (opened next s) c next
meets-opened rs s c next is last known undone off d = record {
  kept = IsSearch-opened rs s is next known undone off
      (λ i e. let same : i ≡ last.0 = omega (arith, e, last.1) in subst (λ x. DependsOn rs x next) (sym (ap (λ n. get_or s.path n 0) same ∙ last.2)) d);
  met = inr (last.0, omega (arith, last.1, length_push s.path next), get_or_append_left s.path (next ∷ []) 0 last.0 (omega (arith, last.1)) ∙ last.2, get_or_push s.path next 0 (last.0 + 1) (sym last.1));
  left = refl;
  begun = begun-opened s next;
}

pub circle-met : (rs : List (List ℕ)) (s : State) (c next i : ℕ) → IsSearch rs s → IsLast s c → place_of s next ≡ Some i → DependsOn rs c next → IsCircle rs (drop i s.path)
circle-met rs s c next i is last at d =
    IsCircle-drop rs s is next i last.0 at last.1 (subst (λ x. DependsOn rs x next) (sym last.2) d)

-- a dependency of the last crate was met, and counts as looked at
pub goes-on-looked : (rs : List (List ℕ)) (old s : State) (c next : ℕ) → c < length rs → 1 < left_of old c → next ≡ get_or (row rs c) (length (row rs c) + 1 - left_of old c) 0
    → Meets rs old s c next → GoesOn rs old (looked c s)
goes-on-looked rs old s c next known two e met =
    let same : left_of s c ≡ left_of old c = ap (λ xs. get_or xs c 0) met.left in
    let two' : 1 < left_of s c = omega (arith, same, two) in
    let e' : next ≡ get_or (row rs c) (length (row rs c) + 1 - left_of s c) 0 = e ∙ ap (λ n. get_or (row rs c) (length (row rs c) + 1 - n) 0) (sym same) in
    let within : c < length s.left = omega (arith, known, met.kept.lefts) in
    record {
      kept = IsSearch-looked rs s met.kept c known two' (subst (λ x. (left_of s x ≡ 0) ⊎ IsBelow s c x) e' met.met);
      less = less-by-one s.left c (left_of s c - 1) within (omega (arith, two')) ∙ ap sum met.left;
      done = λ j z. done j (ap (λ xs. get_or xs j 0) met.left ∙ z);
      begun = λ r h. begun r (met.begun r h);
    }
  where
    done : (j : ℕ) → left_of s j ≡ 0 → left_of (looked c s) j ≡ 0
    done j z = elim (at-set s.left c j (left_of s c - 1) 0 (omega (arith, known, met.kept.lefts))) [
      | inl f ↦ let g : left_of s c ≡ 0 = ap (left_of s) (sym f.0) ∙ z in omega (arith, f.1, g)
      | inr f ↦ f.1 ∙ z
    ]

    begun : (r : ℕ) → HasBegun s r → HasBegun (looked c s) r
    begun r h = elim h [ inl z ↦ inl (done r z) | inr first ↦ inr first ]

-- the last crate goes into the order
pub goes-on-closed : (rs : List (List ℕ)) (s : State) (c : ℕ) → IsSearch rs s → AreInside rs → IsLast s c → left_of s c ≡ 1 → GoesOn rs s (closed c s)
goes-on-closed rs s c is inside last one = record {
  kept = IsSearch-closed rs s is c last.0 last.1 last.2 one inside;
  less = less-by-one s.left c 0 within (omega (arith, one));
  done = done;
  begun = λ r h. elim h [ inl z ↦ inl (done r z) | inr first ↦ begun r first.0 first.1 ];
}
  where
    within : c < length s.left
    within = let h = last-known rs s c is last in omega (arith, h.0, is.lefts)

    done : (j : ℕ) → left_of s j ≡ 0 → left_of (closed c s) j ≡ 0
    done j z = elim (at-set s.left c j 0 0 within) [ inl f ↦ f.1 | inr f ↦ f.1 ∙ z ]

    begun : (r : ℕ) → 0 < length s.path → get_or s.path 0 0 ≡ r → HasBegun (closed c s) r
    begun r some first = elim (cases_eq last.0 0) [
      | inl z ↦
          let here : r ≡ c = sym first ∙ ap (λ n. get_or s.path n 0) (sym z) ∙ last.2 in
          inl (elim (at-set s.left c r 0 0 within) [ inl f ↦ f.1 | inr f ↦ absurd (f.0 here) ])
      | inr more ↦
          let len : length (take (length s.path - 1) s.path) ≡ length s.path - 1 = length-take-le (length s.path - 1) s.path (omega arith) in
          let two : 0 < length s.path - 1 = omega (arith, last.1, more) in
          inr (omega (arith, len, two), get_or-take (length s.path - 1) s.path 0 0 two ∙ first)
    ]

-- no crate is on an empty path
pub off-path : (rs : List (List ℕ)) (s : State) (c : ℕ) → IsSearch rs s → length s.path ≡ 0 → place_of s c ≡ None
off-path rs s c is idle = by (place_of s c) refl
  where
    by : (o : Option ℕ) → place_of s c ≡ o → o ≡ None
    by None e = refl
    by (Some i) e = let h = is.placed c i e in absurd (omega (arith, h.0, idle))

-- the row of a crate
pub row-is : (g : Graph) (a : ℕ) (d : Data) → a < length g → d ≡ get_or g a d → row (rows g) a ≡ needs d
row-is g a d within here = get_or-map needs g a d [] within ∙ ap needs (sym here)

-- a dependency by its place
pub dependency-at : (g : Graph) (a k n : ℕ) (d : Data) (x : Dependency) → a < length g → d ≡ get_or g a d → k ≡ n → n < length (row (rows g) a)
    → (get_or d.dependencies k x).crate_id.0 ≡ get_or (row (rows g) a) n 0
dependency-at g a k n d x within here same there =
    let r = row-is g a d within here in
    let len : length (row (rows g) a) ≡ length d.dependencies = ap length r ∙ length-map d.dependencies (λ (e : Dependency). e.crate_id.0) in
    ap (λ i. (get_or d.dependencies i x).crate_id.0) same
    ∙ sym (get_or-map (λ (e : Dependency). e.crate_id.0) d.dependencies n x 0 (omega (arith, len, there)))
    ∙ sym (ap (λ xs. get_or xs n 0) r)

-- in a graph all dependencies are crates of it
pub AreInside-rows : (g : Graph) → IsGraph g → AreInside (rows g)
AreInside-rows [] is a k within there = absurd (omega arith)
AreInside-rows (x ∷ g) is a k within there =
    let w : a < length (x ∷ g) = omega (arith, within, length-map (x ∷ g) needs) in
    let r = row-is (x ∷ g) a (get_or (x ∷ g) a x) w (get_or_default (x ∷ g) a x _ w) in
    let known : All (λ n. n < length (x ∷ g)) (needs (get_or (x ∷ g) a x)) =
    All-map (λ n. n < length (x ∷ g)) (λ (e : Dependency). e.crate_id.0) (get_or (x ∷ g) a x).dependencies (is.known a x w) in
    let inside : get_or (needs (get_or (x ∷ g) a x)) k 0 < length (x ∷ g) = known k 0 (subst (λ xs. k < length xs) r there) in
    let same : get_or (row (rows (x ∷ g)) a) k 0 ≡ get_or (needs (get_or (x ∷ g) a x)) k 0 = ap (λ xs. get_or xs k 0) r in
    omega (arith, inside, same, length-map (x ∷ g) needs)

no-place : (n c : ℕ) → get_or (replicate n None) c (let o : Option ℕ = None in o) ≡ None
no-place n c = elim (cases_lt c n) [
  | inl lt ↦ get_or-replicate n c None None lt
  | inr ge ↦ get_or_past (replicate n None) c None (omega (arith, length-replicate n (let o : Option ℕ = None in o), ge))
]

-- a search that begins
pub IsSearch-started : (rs : List (List ℕ)) → IsSearch rs (started rs)
IsSearch-started rs = record {
  lefts = length-map rs (λ r. length r + 1);
  spots = length-replicate (length rs) None;
  at_most = λ c w. let e = left c w in omega (arith, e);
  on_path = λ i w. absurd (omega (arith, w));
  placed = λ c i e. let none = no-place (length rs) c in absurd (cc);
  chain = λ i w. absurd (omega (arith, w));
  seen = λ c k w lt le. let e = left c w in absurd (omega (arith, e, le));
  listed = λ c w z. let e = left c w in absurd (omega (arith, e, z));
  done = λ j w. absurd (omega (arith, w));
  once = λ i j lt w. absurd (omega (arith, w));
  before = λ j b w d. absurd (omega (arith, w));
}
  where
    left : (c : ℕ) → c < length rs → left_of (started rs) c ≡ length (row rs c) + 1
    left c w = get_or-map (λ r. length r + 1) rs c [] 0 w

-- where each crate is in the order, it is one
pub IsOrder-search : (rs : List (List ℕ)) (s : State) → IsSearch rs s → ((c : ℕ) → c < length rs → left_of s c ≡ 0) → IsOrder rs s.order
IsOrder-search rs s is all = record {
  all = λ c w. is.listed c w (all c w);
  crates = λ j w. (is.done j w).0;
  once = is.once;
  before = is.before;
}
