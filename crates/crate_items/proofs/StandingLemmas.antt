-- How items stand is told one by one, and stays.
use Rattle.std.proofs.Common.{◌≡◌, ◌+◌, ◌++◌, ◌∙◌, ◌<◌, ℕ, zero, suc, List, [], ◌∷◌, length, take, refl, ap, sym, subst, arith}
use Rattle.std.specs.Prelude.{IfSome, Option, Some, None, slice_get}
use Rattle.crate_items.specs.StandingLaws.{StandingsGoByParents, chosen_through}
use Rattle.crate_items.specs.Standings.{View, around, chosen_behind, holds, or_of_file, standing_of, standings_from}
use Rattle.crate_items.specs.declared.modules.standing.Standing.{Standing}
use Rattle.item_tree.specs.declared.items.Item.{Item}

stays_before : (before : List Standing) (s : Standing) (k : ℕ) (t : Standing) → slice_get before k ≡ Some t → slice_get (before ++ s ∷ []) k ≡ Some t
stays_before [] s k t e = absurd (let f : ⊥ = cc in f)
stays_before (x ∷ xs) s zero t e = e
stays_before (x ∷ xs) s (suc k) t e = stays_before xs s k t e

-- what is told stays
stays : (v : View) (before : List Standing) (chosen : Option ℕ) (n : ℕ) (xs : List Item) (k : ℕ) (t : Standing) → slice_get before k ≡ Some t
    → slice_get (standings_from v before chosen n xs) k ≡ Some t
stays v before chosen n [] k t e = e
stays v before chosen n (x ∷ xs) k t e =
    stays v (before ++ standing_of chosen n x (holds v n x) (around v before x.parent) ∷ []) (chosen_behind chosen x (holds v n x)) (n + 1) xs k t
    (stays_before before (standing_of chosen n x (holds v n x) (around v before x.parent)) k t e)

last : (before : List Standing) (s : Standing) → slice_get (before ++ s ∷ []) (length before) ≡ Some s
last [] s = refl
last (x ∷ xs) s = last xs s

inside : (xs : List Standing) (k : ℕ) → k < length xs → (s : Standing) × (slice_get xs k ≡ Some s)
inside [] k h = absurd (let f : ⊥ = omega arith in f)
inside (x ∷ xs) zero h = (x, refl)
inside (x ∷ xs) (suc k) h =
    let within : k < length xs = omega arith in
    inside xs k within

-- how the item around stands is told before
same_around : (v : View) (before : List Standing) (chosen : Option ℕ) (n : ℕ) (xs : List Item) (parent : Option ℕ) → IfSome parent (λ p. p < length before)
    → around v before parent ≡ around v (standings_from v before chosen n xs) parent
same_around v before chosen n xs None h = refl
same_around v before chosen n xs (Some p) h =
    let found = inside before p h in
    ap (or_of_file v) (found.1 ∙ sym (stays v before chosen n xs p found.0 found.1))

suc_further : (k : ℕ) → suc (k + 1) ≡ suc k + 1
suc_further k = omega arith

one_longer : (before : List Standing) (s : Standing) → length (before ++ s ∷ []) ≡ length before + 1
one_longer [] s = refl
one_longer (x ∷ xs) s = ap suc (one_longer xs s) ∙ suc_further (length xs)

none_more : (n m : ℕ) → m ≡ n + 0 → m ≡ n
none_more n m e = omega arith

one_further : (n m j : ℕ) → m ≡ n + suc j → m ≡ (n + 1) + j
one_further n m j e = omega arith

none_before : (n : ℕ) → n ≡ 0 + n
none_before n = omega arith

some_is : {x y : Item} → Some x ≡ Some y → x ≡ y
some_is e = cc

told : (v : View) (before : List Standing) (chosen : Option ℕ) (n : ℕ) (xs : List Item) (j m : ℕ) (x : Item) → length before ≡ n → m ≡ n + j → slice_get xs j ≡ Some x → IfSome x.parent (λ p. p < m)
    → slice_get (standings_from v before chosen n xs) m
    ≡ Some (standing_of (chosen_through v chosen n (take j xs)) m x (holds v m x) (around v (standings_from v before chosen n xs) x.parent))
told v before chosen n [] j m x len number at h = absurd (let f : ⊥ = cc in f)
told v before chosen n (y ∷ ys) zero m x len number at h =
    subst (λ k. slice_get all k ≡ Some (standing_of chosen k x (holds v k x) (around v all x.parent))) (sym here)
    (subst (λ (z : Item). slice_get all n ≡ Some (standing_of chosen n z (holds v n z) (around v all z.parent))) same
    (stays v (before ++ own ∷ []) (chosen_behind chosen y (holds v n y)) (n + 1) ys n own (subst (λ k. slice_get (before ++ own ∷ []) k ≡ Some own) len (last before own))
    ∙ ap (λ o. Some (standing_of chosen n y (holds v n y) o)) (same_around v before chosen n (y ∷ ys) y.parent earlier)))
  where
    own : Standing
    own = standing_of chosen n y (holds v n y) (around v before y.parent)

    all : List Standing
    all = standings_from v before chosen n (y ∷ ys)

    same : y ≡ x
    same = some_is at

    here : m ≡ n
    here = none_more n m number

    earlier : IfSome y.parent (λ p. p < length before)
    earlier =
        subst (λ (z : Item). IfSome z.parent (λ p. p < length before)) (sym same)
        (subst (λ k. IfSome x.parent (λ p. p < k)) (here ∙ sym len) h)
told v before chosen n (y ∷ ys) (suc j) m x len number at h =
    told v (before ++ standing_of chosen n y (holds v n y) (around v before y.parent) ∷ []) (chosen_behind chosen y (holds v n y)) (n + 1) ys j m x
    (one_longer before (standing_of chosen n y (holds v n y) (around v before y.parent)) ∙ ap (λ k. k + 1) len) (one_further n m j number) at h

pub standings_go_by_parents : StandingsGoByParents
standings_go_by_parents v n x at h = told v [] None 0 v.items n n x refl (none_before n) at h
