-- A search, one step further.
use Rattle.std.proofs.Common.{◌≡◌, ◌≢◌, ◌+◌, ◌-◌, ◌<◌, ◌≤◌, ◌++◌, ◌∷◌, [], ◌⊎◌, inl, inr, ℕ, List, Some, None, length, take, drop, get_or, set, refl, arith, ap, sym, ◌∙◌, subst, length-set, get_or-set_same, get_or-set_other}
use Rattle.std.proofs.lemmas.List.{get_or_append_left, get_or_push, get_or-take, get_or-drop, length_push, length-drop, length-take-le}
use Rattle.std.proofs.lemmas.Bool.{cases_eq, cases_lt}
use Rattle.crate_items.specs.CrateGraphs.{DependsOn, IsCircle, row}
use Rattle.crate_items.specs.OrderSearch.{IsBelow, IsListed, IsSearch, State, closed, left_of, looked, opened, place_of}

-- what a list has after a write, at the place and elsewhere
pub at-set : {A : Type 0} (l : List A) (i j : ℕ) (a d : A) → i < length l → ((j ≡ i) × (get_or (set l i a) j d ≡ a)) ⊎ ((j ≢ i) × (get_or (set l i a) j d ≡ get_or l j d))
at-set l i j a d within = elim (cases_eq j i) [
  | inl same ↦ inl (same, ap (λ k. get_or (set l i a) k d) same ∙ get_or-set_same l i a d within)
  | inr other ↦ inr (other, get_or-set_other l i j a d other)
]

-- what a list has after a push, before the end and at it
at-push : (l : List ℕ) (a i : ℕ) → i < length (l ++ a ∷ []) → ((i < length l) × (get_or (l ++ a ∷ []) i 0 ≡ get_or l i 0)) ⊎ ((i ≡ length l) × (get_or (l ++ a ∷ []) i 0 ≡ a))
at-push l a i within = elim (cases_lt i (length l)) [
  | inl lt ↦ inl (lt, get_or_append_left l (a ∷ []) 0 i lt)
  | inr ge ↦ let e : length l ≡ i = omega (arith, length_push l a, within, ge) in inr (sym e, get_or_push l a 0 i e)
]

depends : (rs : List (List ℕ)) (a a' b b' : ℕ) → a ≡ a' → b ≡ b' → DependsOn rs a b → DependsOn rs a' b'
depends rs a a' b b' e f d = subst (λ x. DependsOn rs x b') e (subst (λ y. DependsOn rs a y) f d)

-- a crate on the path: its place on it is the only one
one-place : (rs : List (List ℕ)) (s : State) → IsSearch rs s → (i j : ℕ) → i < length s.path → j < length s.path → get_or s.path i 0 ≡ get_or s.path j 0 → i ≡ j
one-place rs s is i j wi wj same =
    let a : place_of s (get_or s.path i 0) ≡ Some i = (is.on_path i wi).2 in
    let b : place_of s (get_or s.path j 0) ≡ Some j = (is.on_path j wj).2 in
    let c : place_of s (get_or s.path i 0) ≡ place_of s (get_or s.path j 0) = ap (place_of s) same in
    cc

module _ (rs : List (List ℕ)) (s : State) (is : IsSearch rs s) where
  module _ (c : ℕ) (known : c < length rs) (two : 1 < left_of s c)
      (next : (left_of s (get_or (row rs c) (length (row rs c) + 1 - left_of s c) 0) ≡ 0) ⊎ IsBelow s c (get_or (row rs c) (length (row rs c) + 1 - left_of s c) 0)) where
    looked-left : (j : ℕ) → ((j ≡ c) × (left_of (looked c s) j ≡ left_of s c - 1)) ⊎ ((j ≢ c) × (left_of (looked c s) j ≡ left_of s j))
    looked-left j = at-set s.left c j (left_of s c - 1) 0 (omega (arith, is.lefts, known))

    looked-at_most : (j : ℕ) → j < length rs → left_of (looked c s) j ≤ length (row rs j) + 1
    looked-at_most j w = elim (looked-left j) [
      | inl e ↦ let f : left_of s c ≤ length (row rs j) + 1 = subst (λ x. left_of s x ≤ length (row rs j) + 1) e.0 (is.at_most j w) in omega (arith, e.1, f)
      | inr e ↦ let f = is.at_most j w in omega (arith, e.1, f)
    ]

    looked-done : (j : ℕ) → left_of s j ≡ 0 → left_of (looked c s) j ≡ 0
    looked-done j z = elim (looked-left j) [
      | inl e ↦ let f : left_of s c ≡ 0 = ap (left_of s) (sym e.0) ∙ z in omega (arith, e.1, f)
      | inr e ↦ e.1 ∙ z
    ]

    looked-more : (j : ℕ) → 0 < left_of s j → 0 < left_of (looked c s) j
    looked-more j z = elim (looked-left j) [
      | inl e ↦ omega (arith, e.1, two)
      | inr e ↦ omega (arith, e.1, z)
    ]

    looked-undone : (j : ℕ) → left_of (looked c s) j ≡ 0 → left_of s j ≡ 0
    looked-undone j z = elim (looked-left j) [
      | inl e ↦ absurd (omega (arith, e.1, z, two))
      | inr e ↦ sym e.1 ∙ z
    ]

    kept : (j b : ℕ) → (left_of s b ≡ 0) ⊎ IsBelow s j b → (left_of (looked c s) b ≡ 0) ⊎ IsBelow (looked c s) j b
    kept j b h = elim h [ inl z ↦ inl (looked-done b z) | inr below ↦ inr below ]

    looked-seen : (j k : ℕ) → j < length rs → k < length (row rs j) → k + left_of (looked c s) j ≤ length (row rs j)
        → (left_of (looked c s) (get_or (row rs j) k 0) ≡ 0) ⊎ IsBelow (looked c s) j (get_or (row rs j) k 0)
    looked-seen j k w within so = elim (looked-left j) [
      | inl e ↦ at-c (sym e.0) e.1
      | inr e ↦ kept j _ (is.seen j k w within (subst (λ n. k + n ≤ length (row rs j)) e.1 so))
    ]
      where
        here : (k : ℕ) → k ≡ length (row rs c) + 1 - left_of s c → (left_of s (get_or (row rs c) k 0) ≡ 0) ⊎ IsBelow s c (get_or (row rs c) k 0)
        here k e = subst (λ n. (left_of s (get_or (row rs c) n 0) ≡ 0) ⊎ IsBelow s c (get_or (row rs c) n 0)) (sym e) next

        known-at : k < length (row rs c) → k + (left_of s c - 1) ≤ length (row rs c) → (left_of (looked c s) (get_or (row rs c) k 0) ≡ 0) ⊎ IsBelow (looked c s) c (get_or (row rs c) k 0)
        known-at lt le = elim (cases_lt (k + left_of s c) (length (row rs c) + 1)) [
          | inl old ↦ kept c _ (is.seen c k known lt (omega (arith, old)))
          | inr new ↦ kept c _ (here k (omega (arith, new, le, two, is.at_most c known)))
        ]

        at-c : c ≡ j → left_of (looked c s) j ≡ left_of s c - 1 → (left_of (looked c s) (get_or (row rs j) k 0) ≡ 0) ⊎ IsBelow (looked c s) j (get_or (row rs j) k 0)
        at-c e l =
            let so' : k + (left_of s c - 1) ≤ length (row rs j) = subst (λ n. k + n ≤ length (row rs j)) l so in
            let lt : k < length (row rs c) = subst (λ x. k < length (row rs x)) (sym e) within in
            let le : k + (left_of s c - 1) ≤ length (row rs c) = subst (λ x. k + (left_of s c - 1) ≤ length (row rs x)) (sym e) so' in
            subst (λ x. (left_of (looked c s) (get_or (row rs x) k 0) ≡ 0) ⊎ IsBelow (looked c s) x (get_or (row rs x) k 0)) e (known-at lt le)

    pub IsSearch-looked : IsSearch rs (looked c s)
    IsSearch-looked = record {
      lefts = length-set s.left c (left_of s c - 1) ∙ is.lefts;
      spots = is.spots;
      at_most = looked-at_most;
      on_path = λ i w. ((is.on_path i w).0, looked-more _ (is.on_path i w).1, (is.on_path i w).2);
      placed = is.placed;
      chain = is.chain;
      seen = looked-seen;
      listed = λ j w z. is.listed j w (looked-undone j z);
      done = λ j w. ((is.done j w).0, looked-done _ (is.done j w).1);
      once = is.once;
      before = is.before;
    }

  -- a crate that is neither in the order nor on the path is put on it, where the last one there depends on it
  module _ (d : ℕ) (known : d < length rs) (undone : 0 < left_of s d) (off : place_of s d ≡ None)
      (from : (i : ℕ) → i + 1 ≡ length s.path → DependsOn rs (get_or s.path i 0) d) where
    opened-place : (x : ℕ) → ((x ≡ d) × (place_of (opened d s) x ≡ Some (length s.path))) ⊎ ((x ≢ d) × (place_of (opened d s) x ≡ place_of s x))
    opened-place x = at-set s.places d x (Some (length s.path)) None (omega (arith, is.spots, known))

    opened-at : (i : ℕ) → i < length s.path → get_or (opened d s).path i 0 ≡ get_or s.path i 0
    opened-at i w = get_or_append_left s.path (d ∷ []) 0 i w

    opened-end : (i : ℕ) → i ≡ length s.path → get_or (opened d s).path i 0 ≡ d
    opened-end i e = get_or_push s.path d 0 i (sym e)

    opened-len : length (opened d s).path ≡ length s.path + 1
    opened-len = length_push s.path d

    abbrev IsOnPath : ℕ → ℕ → Type 0
    IsOnPath i x = (x < length rs) × (0 < left_of s x) × (place_of (opened d s) x ≡ Some i)

    opened-old : (i : ℕ) → i < length s.path → IsOnPath i (get_or s.path i 0)
    opened-old i w =
        let h = is.on_path i w in (
          h.0,
          h.1,
          elim (opened-place (get_or s.path i 0)) [
            | inl e ↦ let f : place_of s d ≡ Some i = ap (place_of s) (sym e.0) ∙ h.2 in absurd (cc)
            | inr e ↦ e.1 ∙ h.2
          ],
        )

    opened-new : (i : ℕ) → i ≡ length s.path → IsOnPath i d
    opened-new i e = (
      known,
      undone,
      elim (opened-place d) [
        | inl f ↦ f.1 ∙ ap Some (sym e)
        | inr f ↦ absurd (f.0 refl)
      ],
    )

    opened-on_path : (i : ℕ) → i < length (opened d s).path
        → (get_or (opened d s).path i 0 < length rs) × (0 < left_of (opened d s) (get_or (opened d s).path i 0)) × (place_of (opened d s) (get_or (opened d s).path i 0) ≡ Some i)
    opened-on_path i w = elim (at-push s.path d i w) [
      | inl e ↦ subst (IsOnPath i) (sym e.1) (opened-old i e.0)
      | inr e ↦ subst (IsOnPath i) (sym e.1) (opened-new i e.0)
    ]

    opened-placed : (x i : ℕ) → place_of (opened d s) x ≡ Some i → (i < length (opened d s).path) × (get_or (opened d s).path i 0 ≡ x)
    opened-placed x i at = elim (opened-place x) [
      | inl e ↦ let f : i ≡ length s.path = cc in (omega (arith, f, opened-len), opened-end i f ∙ sym e.0)
      | inr e ↦ let h = is.placed x i (sym e.1 ∙ at) in (omega (arith, h.0, opened-len), opened-at i h.0 ∙ h.1)
    ]

    opened-chain : (i : ℕ) → i + 1 < length (opened d s).path → DependsOn rs (get_or (opened d s).path i 0) (get_or (opened d s).path (i + 1) 0)
    opened-chain i w = elim (cases_lt (i + 1) (length s.path)) [
      | inl lt ↦ depends rs _ _ _ _ (sym (opened-at i (omega (arith, lt)))) (sym (opened-at (i + 1) lt)) (is.chain i lt)
      | inr ge ↦
          let e : i + 1 ≡ length s.path = omega (arith, w, ge, opened-len) in
          depends rs _ _ _ _ (sym (opened-at i (omega (arith, e)))) (sym (opened-end (i + 1) e)) (from i e)
    ]

    opened-below : (a b : ℕ) → IsBelow s a b → IsBelow (opened d s) a b
    opened-below a b h = (h.0, omega (arith, h.1, opened-len), opened-at h.0 (omega (arith, h.1)) ∙ h.2, opened-at (h.0 + 1) h.1 ∙ h.3)

    pub IsSearch-opened : IsSearch rs (opened d s)
    IsSearch-opened = record {
      lefts = is.lefts;
      spots = length-set s.places d (Some (length s.path)) ∙ is.spots;
      at_most = is.at_most;
      on_path = opened-on_path;
      placed = opened-placed;
      chain = opened-chain;
      seen = λ j k w lt le. elim (is.seen j k w lt le) [ inl z ↦ inl z | inr below ↦ inr (opened-below _ _ below) ];
      listed = is.listed;
      done = is.done;
      once = is.once;
      before = is.before;
    }

  -- the last crate of the path goes into the order, where all that it depends on was looked at
  module _ (c m : ℕ) (end : m + 1 ≡ length s.path) (last : get_or s.path m 0 ≡ c) (one : left_of s c ≡ 1) (all-known : (j k : ℕ) → j < length rs → k < length (row rs j) → get_or (row rs j) k 0 < length rs) where
    known : c < length rs
    known = subst (λ x. x < length rs) last (is.on_path m (omega (arith, end))).0

    -- each crate that it depends on is in the order
    needed : (k : ℕ) → k < length (row rs c) → left_of s (get_or (row rs c) k 0) ≡ 0
    needed k w = elim (is.seen c k known w (omega (arith, one, w))) [
      | inl z ↦ z
      | inr below ↦
          let e : below.0 ≡ m = one-place rs s is below.0 m (omega (arith, below.1)) (omega (arith, end)) (below.2 ∙ sym last) in
          absurd (omega (arith, e, below.1, end))
    ]

    closed-left : (j : ℕ) → ((j ≡ c) × (left_of (closed c s) j ≡ 0)) ⊎ ((j ≢ c) × (left_of (closed c s) j ≡ left_of s j))
    closed-left j = at-set s.left c j 0 0 (omega (arith, is.lefts, known))

    closed-place : (x : ℕ) → ((x ≡ c) × (place_of (closed c s) x ≡ None)) ⊎ ((x ≢ c) × (place_of (closed c s) x ≡ place_of s x))
    closed-place x = at-set s.places c x None None (omega (arith, is.spots, known))

    closed-len : length (closed c s).path ≡ m
    closed-len = ap (λ n. length (take n s.path)) (let e : length s.path - 1 ≡ m = omega (arith, end) in e) ∙ length-take-le m s.path (omega (arith, end))

    closed-at : (i : ℕ) → i < m → get_or (closed c s).path i 0 ≡ get_or s.path i 0
    closed-at i w = get_or-take (length s.path - 1) s.path i 0 (omega (arith, end, w))

    closed-done : (j : ℕ) → left_of s j ≡ 0 → left_of (closed c s) j ≡ 0
    closed-done j z = elim (closed-left j) [ inl e ↦ e.1 | inr e ↦ e.1 ∙ z ]

    closed-at_most : (j : ℕ) → j < length rs → left_of (closed c s) j ≤ length (row rs j) + 1
    closed-at_most j w = elim (closed-left j) [
      | inl e ↦ omega (arith, e.1)
      | inr e ↦ let f = is.at_most j w in omega (arith, e.1, f)
    ]

    other : (i : ℕ) → i < m → get_or s.path i 0 ≢ c
    other i w same =
        let e : i ≡ m = one-place rs s is i m (omega (arith, end, w)) (omega (arith, end)) (same ∙ sym last) in
        omega (arith, e, w)

    abbrev IsStill : ℕ → ℕ → Type 0
    IsStill i x = (x < length rs) × (0 < left_of (closed c s) x) × (place_of (closed c s) x ≡ Some i)

    closed-still : (i : ℕ) → i < m → IsStill i (get_or s.path i 0)
    closed-still i w =
        let h = is.on_path i (omega (arith, end, w)) in (
          h.0,
          elim (closed-left (get_or s.path i 0)) [ inl e ↦ absurd (other i w e.0) | inr e ↦ omega (arith, e.1, h.1) ],
          elim (closed-place (get_or s.path i 0)) [ inl e ↦ absurd (other i w e.0) | inr e ↦ e.1 ∙ h.2 ],
        )

    closed-on_path : (i : ℕ) → i < length (closed c s).path → IsStill i (get_or (closed c s).path i 0)
    closed-on_path i w =
        let lt : i < m = omega (arith, w, closed-len) in
        subst (IsStill i) (sym (closed-at i lt)) (closed-still i lt)

    closed-placed : (x i : ℕ) → place_of (closed c s) x ≡ Some i → (i < length (closed c s).path) × (get_or (closed c s).path i 0 ≡ x)
    closed-placed x i at = elim (closed-place x) [
      | inl e ↦ absurd (cc)
      | inr e ↦
          let h = is.placed x i (sym e.1 ∙ at) in
          let before : i < m = elim (cases_lt i m) [
            | inl lt ↦ lt
            | inr ge ↦ let f : i ≡ m = omega (arith, h.0, ge, end) in absurd (e.0 (sym h.1 ∙ ap (λ n. get_or s.path n 0) f ∙ last))
          ] in
          (omega (arith, before, closed-len), closed-at i before ∙ h.1)
    ]

    closed-chain : (i : ℕ) → i + 1 < length (closed c s).path → DependsOn rs (get_or (closed c s).path i 0) (get_or (closed c s).path (i + 1) 0)
    closed-chain i w =
        depends rs _ _ _ _ (sym (closed-at i (omega (arith, w, closed-len)))) (sym (closed-at (i + 1) (omega (arith, w, closed-len)))) (is.chain i (omega (arith, w, closed-len, end)))

    closed-below : (a b : ℕ) → IsBelow s a b → (left_of (closed c s) b ≡ 0) ⊎ IsBelow (closed c s) a b
    closed-below a b h = elim (cases_lt (h.0 + 1) m) [
      | inl lt ↦ inr (h.0, omega (arith, lt, closed-len), closed-at h.0 (omega (arith, lt)) ∙ h.2, closed-at (h.0 + 1) lt ∙ h.3)
      | inr ge ↦
          let e : h.0 + 1 ≡ m = omega (arith, ge, h.1, end) in
          let f : b ≡ c = sym h.3 ∙ ap (λ n. get_or s.path n 0) e ∙ last in
          inl (elim (closed-left b) [ inl g ↦ g.1 | inr g ↦ absurd (g.0 f) ])
    ]

    closed-seen : (j k : ℕ) → j < length rs → k < length (row rs j) → k + left_of (closed c s) j ≤ length (row rs j)
        → (left_of (closed c s) (get_or (row rs j) k 0) ≡ 0) ⊎ IsBelow (closed c s) j (get_or (row rs j) k 0)
    closed-seen j k w within so = elim (closed-left j) [
      | inl e ↦
          let lt : k < length (row rs c) = subst (λ x. k < length (row rs x)) e.0 within in
          let z : left_of s (get_or (row rs j) k 0) ≡ 0 = ap (λ x. left_of s (get_or (row rs x) k 0)) e.0 ∙ needed k lt in
          inl (closed-done _ z)
      | inr e ↦ elim (is.seen j k w within (subst (λ n. k + n ≤ length (row rs j)) e.1 so)) [
        | inl z ↦ inl (closed-done _ z)
        | inr below ↦ closed-below _ _ below
      ]
    ]

    order-len : length (closed c s).order ≡ length s.order + 1
    order-len = length_push s.order c

    order-at : (j : ℕ) → j < length s.order → get_or (closed c s).order j 0 ≡ get_or s.order j 0
    order-at j w = get_or_append_left s.order (c ∷ []) 0 j w

    still-listed : (j : ℕ) → IsListed s j → IsListed (closed c s) j
    still-listed j h = (h.0, omega (arith, h.1, order-len), order-at h.0 h.1 ∙ h.2)

    closed-listed : (j : ℕ) → j < length rs → left_of (closed c s) j ≡ 0 → IsListed (closed c s) j
    closed-listed j w z = elim (closed-left j) [
      | inl e ↦ (length s.order, omega (arith, order-len), get_or_push s.order c 0 (length s.order) refl ∙ sym e.0)
      | inr e ↦ still-listed j (is.listed j w (sym e.1 ∙ z))
    ]

    abbrev IsDone : ℕ → Type 0
    IsDone x = (x < length rs) × (left_of (closed c s) x ≡ 0)

    closed-all : (j : ℕ) → j < length (closed c s).order → IsDone (get_or (closed c s).order j 0)
    closed-all j w = elim (at-push s.order c j w) [
      | inl e ↦ subst IsDone (sym e.1) ((is.done j e.0).0, closed-done _ (is.done j e.0).1)
      | inr e ↦ subst IsDone (sym e.1) (known, elim (closed-left c) [ inl f ↦ f.1 | inr f ↦ absurd (f.0 refl) ])
    ]

    closed-once : (i j : ℕ) → i < j → j < length (closed c s).order → get_or (closed c s).order i 0 ≢ get_or (closed c s).order j 0
    closed-once i j lt w same = elim (at-push s.order c j w) [
      | inl e ↦ is.once i j lt e.0 (sym (order-at i (omega (arith, lt, e.0))) ∙ same ∙ e.1)
      | inr e ↦
          let wi : i < length s.order = omega (arith, lt, e.0) in
          let f : get_or s.order i 0 ≡ c = sym (order-at i wi) ∙ same ∙ e.1 in
          let z : left_of s c ≡ 0 = ap (left_of s) (sym f) ∙ (is.done i wi).1 in
          omega (arith, z, one)
    ]

    abbrev StandsBefore : ℕ → ℕ → Type 0
    StandsBefore j b = (i : ℕ) × (i < j) × (get_or (closed c s).order i 0 ≡ b)

    closed-before : (j b : ℕ) → j < length (closed c s).order → DependsOn rs (get_or (closed c s).order j 0) b → StandsBefore j b
    closed-before j b w h = elim (at-push s.order c j w) [
      | inl e ↦
          let found = is.before j b e.0 (depends rs _ _ _ _ e.1 refl h) in
          (found.0, found.1, order-at found.0 (omega (arith, found.1, e.0)) ∙ found.2)
      | inr e ↦ at-end e.0 (depends rs _ _ _ _ e.1 refl h)
    ]
      where
        at-end : j ≡ length s.order → DependsOn rs c b → StandsBefore j b
        at-end e d =
            let z : left_of s b ≡ 0 = ap (left_of s) (sym d.2) ∙ needed d.0 d.1 in
            let there : b < length rs = subst (λ x. x < length rs) d.2 (all-known c d.0 known d.1) in
            let found = is.listed b there z in
            (found.0, omega (arith, found.1, e), order-at found.0 found.1 ∙ found.2)

    pub IsSearch-closed : IsSearch rs (closed c s)
    IsSearch-closed = record {
      lefts = length-set s.left c 0 ∙ is.lefts;
      spots = length-set s.places c None ∙ is.spots;
      at_most = closed-at_most;
      on_path = closed-on_path;
      placed = closed-placed;
      chain = closed-chain;
      seen = closed-seen;
      listed = closed-listed;
      done = closed-all;
      once = closed-once;
      before = closed-before;
    }

  -- a crate of the path on which the last one there depends: from it on the path is a circle
  pub IsCircle-drop : (d i m : ℕ) → place_of s d ≡ Some i → m + 1 ≡ length s.path → DependsOn rs (get_or s.path m 0) d → IsCircle rs (drop i s.path)
  IsCircle-drop d i m at end from =
      let h = is.placed d i at in
      let len : length (drop i s.path) ≡ length s.path - i = length-drop i s.path in
      let last : i + (length (drop i s.path) - 1) ≡ m = omega (arith, len, h.0, end) in
      record {
        some = omega (arith, len, h.0);
        next = λ k w. depends rs _ _ _ _ (sym (get_or-drop i s.path k 0))
            (sym (get_or-drop i s.path (k + 1) 0 ∙ ap (λ n. get_or s.path n 0) (let e : i + (k + 1) ≡ i + k + 1 = omega arith in e)))
            (is.chain (i + k) (omega (arith, w, len)));
        back = depends rs _ _ _ _ (sym (get_or-drop i s.path (length (drop i s.path) - 1) 0 ∙ ap (λ n. get_or s.path n 0) last))
            (sym (get_or-drop i s.path 0 0 ∙ ap (λ n. get_or s.path n 0) (let e : i + 0 ≡ i = omega arith in e) ∙ h.1)) from;
      }
