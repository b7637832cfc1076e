-- Names in order: two lists in order that have the same names are one list.
use Rattle.std.proofs.Common.{◌≡◌, ℕ, zero, suc, List, [], ◌∷◌, ◌<◌, refl, ap, sym, subst, ◌∙◌, length, arith}
use Rattle.std.specs.List.{Contains, AllByRecursion, slice_index_or}
use Rattle.std.specs.declared.cmp.Ordering.TheVariants.{Less, Greater}
use Rattle.std.specs.List.Sorted.{IsStrictlySortedBy}
use Rattle.std.specs.Cmp.Lexicographic.{slice_cmp, nat_list_cmp_total}
use Rattle.std.specs.Ordering.{nat_cmp, ordering_reverse}
use Rattle.dm_base.specs.Names.{Name}
use Rattle.dm_scope.specs.Sorted.{AreInOrder}

-- what holds of an element of a list: it is the first, or it stands behind it
pub in_either : {X : Type 0} (G : Type 0) (y : X) (ys : List X) (x : X) → (y ≡ x → G) → (Contains ys x → G) → Contains (y ∷ ys) x → G
in_either G y ys x first behind h = by h.0 h.1 h.2
  where
    by : (k : ℕ) → k < length (y ∷ ys) → slice_index_or (y ∷ ys) k x ≡ x → G
    by zero less is = first is
    by (suc k) less is = behind (k, omega arith, is)

pub in_front : {X : Type 0} (x : X) (xs : List X) → Contains (x ∷ xs) x
in_front x xs = (0, omega arith, refl)

pub in_back : {X : Type 0} (y : X) (ys : List X) (x : X) → Contains ys x → Contains (y ∷ ys) x
in_back y ys x h = (suc h.0, omega (arith, h.1), h.2)

of_each : {X : Type 0} (P : X → Type 0) (xs : List X) (x : X) → AllByRecursion P xs → Contains xs x → P x
of_each P [] x all h = absurd (omega (arith, h.1))
of_each P (y ∷ ys) x all h = in_either (P x) y ys x (λ e. subst P e all.0) (λ t. of_each P ys x all.1 t) h

not_below_itself : (n : Name) → slice_cmp nat_cmp n n ≡ Less → ⊥
not_below_itself n h = let f : Less ≡ Greater = sym h ∙ nat_list_cmp_total.antisymm n n ∙ ap ordering_reverse h in cc

-- names in order that are the same names are one list
in_order-one : (ns ms : List Name) → IsStrictlySortedBy (slice_cmp nat_cmp) ns → IsStrictlySortedBy (slice_cmp nat_cmp) ms
    → ((x : Name) → Contains ns x → Contains ms x) → ((x : Name) → Contains ms x → Contains ns x) → ns ≡ ms
unfolding IsStrictlySortedBy
in_order-one [] [] s t f g = refl
in_order-one [] (m ∷ ms) s t f g = absurd (omega (arith, (g m (in_front m ms)).1))
in_order-one (n ∷ ns) [] s t f g = absurd (omega (arith, (f n (in_front n ns)).1))
in_order-one (n ∷ ns) (m ∷ ms) s t f g =
    let crossed : Contains ms n → Contains ns m → ⊥ = λ h k. not_below_itself n (nat_list_cmp_total.trans n m n (of_each (λ y. slice_cmp nat_cmp n y ≡ Less) ns m s.0 k) (of_each (λ y. slice_cmp nat_cmp m y ≡ Less) ms n t.0 h)) in
    let same : n ≡ m = in_either (n ≡ m) m ms n sym (λ h. in_either (n ≡ m) n ns m (λ e. e) (λ k. absurd (crossed h k)) (g m (in_front m ms))) (f n (in_front n ns)) in
    ap (λ l. n ∷ l)
    (in_order-one ns ms s.1 t.1
    (λ x h. in_either (Contains ms x) m ms x (λ e. absurd (not_below_itself n (subst (λ y. slice_cmp nat_cmp n y ≡ Less) (sym (same ∙ e)) (of_each (λ y. slice_cmp nat_cmp n y ≡ Less) ns x s.0 h)))) (λ k. k) (f x (in_back n ns x h)))
    (λ x h. in_either (Contains ns x) n ns x (λ e. absurd (not_below_itself m (subst (λ y. slice_cmp nat_cmp m y ≡ Less) (sym (sym same ∙ e)) (of_each (λ y. slice_cmp nat_cmp m y ≡ Less) ms x t.0 h)))) (λ k. k) (g x (in_back m ms x h))))
    ∙ ap (λ k. k ∷ ms) same

pub AreInOrder-one : (ns ms all : List Name) → AreInOrder ns all → AreInOrder ms all → ns ≡ ms
AreInOrder-one ns ms all a b = in_order-one ns ms a.sorted b.sorted (λ x h. (b.same x).1 ((a.same x).0 h)) (λ x h. (a.same x).1 ((b.same x).0 h))
