-- Lists in order: seen through a map, and of names and entries.
use Rattle.std.proofs.Common.{◌≡◌, ◌∙◌, ◌||◌, Bool, true, List, [], ◌∷◌, Option, arith, refl, ap, subst, sym, map, map-id}
use Rattle.std.specs.Borrow.{Bor}
use Rattle.std.specs.Cmp.Lexicographic.{slice_cmp}
use Rattle.std.specs.Iterator.Runs.{Run}
use Rattle.std.specs.List.{Contains, AllByRecursion, list_any}
use Rattle.std.specs.List.Sorted.{IsStrictlySortedBy}
use Rattle.std.specs.Ordering.{nat_cmp}
use Rattle.std.specs.Str.{bytes_eq}
use Rattle.std.specs.declared.cmp.Ordering.{Ordering}
use Rattle.std.specs.declared.cmp.Ordering.TheVariants.{Less}
use Rattle.std.proofs.lemmas.Iterator.{YieldsList}
use Rattle.std.proofs.lemmas.Map.Views.{Contains-from_any}
use Rattle.std.proofs.lemmas.Slice.Eq.{bytes_eq-Decides}
use Rattle.itertools.proofs.AdaptorLemmas.{items_from_whole_run}
use Rattle.dm_base.specs.Names.{Name}
use Rattle.dm_base.specs.declared.per_ns.PerNs.{PerNs}
use Rattle.dm_scope.specs.OrderLaws.{in_either, in_front, in_back}
use Rattle.dm_scope.specs.Scope.{Scope, bound_in}
use Rattle.dm_scope.specs.Sorted.{AreInOrder, AreSortedOnce, seen, AreNames, AreEntries}

module _ {X Y : Type 0} (f : X → Y) where
  below-map : (P : Y → Type 0) (xs : List X) → AllByRecursion (λ x. P (f x)) xs → AllByRecursion P (map f xs)
  below-map P [] h = tt
  below-map P (x ∷ xs) h = (h.0, below-map P xs h.1)

  IsStrictlySortedBy-map : (cmp : Y → Y → Ordering) (xs : List X) → IsStrictlySortedBy (λ a b. cmp (f a) (f b)) xs → IsStrictlySortedBy cmp (map f xs)
  unfolding IsStrictlySortedBy
  IsStrictlySortedBy-map cmp [] h = tt
  IsStrictlySortedBy-map cmp (x ∷ xs) h = (below-map (λ y. cmp (f x) y ≡ Less) xs h.0, IsStrictlySortedBy-map cmp xs h.1)

  Contains-map : (xs : List X) (x : X) → Contains xs x → Contains (map f xs) (f x)
  Contains-map [] x h = absurd (omega (arith, h.1))
  Contains-map (y ∷ ys) x h = in_either (Contains (f y ∷ map f ys) (f x)) y ys x (λ e. subst (λ z. Contains (f y ∷ map f ys) (f z)) e (in_front (f y) (map f ys))) (λ k. in_back (f y) (map f ys) (f x) (Contains-map ys x k)) h

  Contains-from_map : (xs : List X) (y : Y) → Contains (map f xs) y → (x : X) × Contains xs x × (f x ≡ y)
  Contains-from_map [] y h = absurd (omega (arith, h.1))
  Contains-from_map (x ∷ xs) y h =
      in_either ((z : X) × Contains (x ∷ xs) z × (f z ≡ y)) (f x) (map f xs) y (λ e. (x, in_front x xs, e))
      (λ k. let r = Contains-from_map xs y k in (r.0, in_back x xs r.0 r.1, r.2)) h

  list_any-map : (p : Y → Bool) (xs : List X) → list_any (λ x. p (f x)) xs ≡ list_any p (map f xs)
  list_any-map p [] = refl
  list_any-map p (x ∷ xs) = ap (λ b. p (f x) || b) (list_any-map p xs)

-- references in order, each once, show names in order
pub names_in_order : (once all : List (Bor Name)) → AreSortedOnce (λ a b. slice_cmp nat_cmp a.now b.now) (λ a b. bytes_eq a.now b.now) once all → AreInOrder (seen once) (seen all)
names_in_order once all h = record {
  sorted = IsStrictlySortedBy-map (λ (n : Bor Name). n.now) (slice_cmp nat_cmp) once h.sorted;
  same = λ name. (
    λ k. let it = Contains-from_map (λ (n : Bor Name). n.now) once name k in subst (Contains (seen all)) it.2 (Contains-map (λ (n : Bor Name). n.now) all it.0 (h.of_all it.0 it.1)),
    λ k.
        let it = Contains-from_map (λ (n : Bor Name). n.now) all name k in
        subst (Contains (seen once)) it.2
        (Contains-from_any {eq = bytes_eq} (λ a b. (bytes_eq-Decides a b).0) it.0.now (seen once)
        (sym (list_any-map (λ (n : Bor Name). n.now) (bytes_eq it.0.now) once) ∙ h.has_each it.0 it.1)),
  );
}

-- an equal iterator yields the same
pub YieldsList-same : {S A B : Type 0} {steps : S → Option A → S → Type 0} {v : A → B} {s t : S} {all : List B} → t ≡ s → YieldsList steps v s all → YieldsList steps v t all
YieldsList-same {S} {A} {B} {steps} {v} {s} {t} {all} same road = subst (λ (u : S). YieldsList steps v u all) (sym same) road

-- what a whole run gives is all that its iterator yields
pub run_is : {S A : Type 0} {steps : S → Option A → S → Type 0} {all : List A} (p : Run steps) (s : S) → p.from ≡ s → p.whole ≡ true → YieldsList steps (λ x. x) s all → p.items ≡ all
run_is p s from whole road = sym (map-id p.items) ∙ items_from_whole_run road p from whole

map-paired : {X Y : Type 0} (f : X → Y) (xs : List X) → map (λ (e : X × Y). e.0) (map (λ x. (x, f x)) xs) ≡ xs
map-paired f [] = refl
map-paired f (x ∷ xs) = ap (λ l. x ∷ l) (map-paired f xs)

-- each name with what it is bound to
pub are_entries : (s : Scope) (ns : List Name) (es : List (Name × PerNs)) → AreNames ns s → es ≡ map (λ n. (n, bound_in s n)) ns → AreEntries es s
are_entries s ns es names e =
    let same : map (λ e. e.0) es ≡ ns = ap (map (λ (e : Name × PerNs). e.0)) e ∙ map-paired (bound_in s) ns in
    (subst (λ l. AreNames l s) (sym same) names, e ∙ ap (map (λ n. (n, bound_in s n))) (sym same))
