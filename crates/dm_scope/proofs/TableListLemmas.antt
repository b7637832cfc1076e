-- One element more in a map from keys to lists.
use Rattle.std.proofs.Common.{◌≡◌, Bool, true, false, cond, List, [], ◌∷◌, ◌++◌, None, Some, map, refl, sym, ap, ◌∙◌}
use Rattle.std.specs.Map.{lookup, set_value}
use Rattle.std.proofs.lemmas.List.{map-append}
use Rattle.smallvec.specs.SmallVec.{SmallVec}
use Rattle.dm_scope.specs.TableLists.{lists_of, add_to_list}

module _ {K X : Type 0} (eq : K → K → Bool) (k : K) where
  -- a key that has a list
  pub add_to_list-present : (x : X) (es : List (K × SmallVec X)) (v w : SmallVec X) → lookup (eq k) es ≡ Some v → w.items ≡ v.items ++ x ∷ [] → lists_of (set_value (eq k) es w) ≡ add_to_list eq (lists_of es) k x
  add_to_list-present x [] v w h e = cc
  add_to_list-present x (y ∷ ys) v w h e = by (eq k y.0) h (λ r. add_to_list-present x ys v w r e)
    where
      by : (b : Bool) → cond b (Some y.1) (lookup (eq k) ys) ≡ Some v → (lookup (eq k) ys ≡ Some v → lists_of (set_value (eq k) ys w) ≡ add_to_list eq (lists_of ys) k x)
          → lists_of (cond b ((y.0, w) ∷ ys) (y ∷ set_value (eq k) ys w)) ≡ cond b ((y.0, y.1.items ++ x ∷ []) ∷ lists_of ys) ((y.0, y.1.items) ∷ add_to_list eq (lists_of ys) k x)
      by true h rest = let same : y.1 ≡ v = cc in ap (λ l. (y.0, l) ∷ lists_of ys) (e ∙ ap (λ (u : SmallVec X). u.items ++ x ∷ []) (sym same))
      by false h rest = ap (λ l. (y.0, y.1.items) ∷ l) (rest h)

  -- a list whose elements stay
  pub lists_of-unchanged : (es : List (K × SmallVec X)) (v w : SmallVec X) → lookup (eq k) es ≡ Some v → w.items ≡ v.items → lists_of (set_value (eq k) es w) ≡ lists_of es
  lists_of-unchanged [] v w h e = refl
  lists_of-unchanged (y ∷ ys) v w h e = by (eq k y.0) h (λ r. lists_of-unchanged ys v w r e)
    where
      by : (b : Bool) → cond b (Some y.1) (lookup (eq k) ys) ≡ Some v → (lookup (eq k) ys ≡ Some v → lists_of (set_value (eq k) ys w) ≡ lists_of ys)
          → lists_of (cond b ((y.0, w) ∷ ys) (y ∷ set_value (eq k) ys w)) ≡ (y.0, y.1.items) ∷ lists_of ys
      by true h rest = let same : y.1 ≡ v = cc in ap (λ l. (y.0, l) ∷ lists_of ys) (e ∙ ap (λ (u : SmallVec X). u.items) (sym same))
      by false h rest = ap (λ l. (y.0, y.1.items) ∷ l) (rest h)

  -- a key that has none
  pub add_to_list-absent : (x : X) (es : List (K × SmallVec X)) → lookup (eq k) es ≡ None → add_to_list eq (lists_of es) k x ≡ lists_of es ++ (k, x ∷ []) ∷ []
  add_to_list-absent x [] h = refl
  add_to_list-absent x (y ∷ ys) h = by (eq k y.0) h (add_to_list-absent x ys)
    where
      by : (b : Bool) → cond b (Some y.1) (lookup (eq k) ys) ≡ None → (lookup (eq k) ys ≡ None → add_to_list eq (lists_of ys) k x ≡ lists_of ys ++ (k, x ∷ []) ∷ [])
          → cond b ((y.0, y.1.items ++ x ∷ []) ∷ lists_of ys) ((y.0, y.1.items) ∷ add_to_list eq (lists_of ys) k x) ≡ (y.0, y.1.items) ∷ (lists_of ys ++ (k, x ∷ []) ∷ [])
      by true h rest = cc
      by false h rest = ap (λ l. (y.0, y.1.items) ∷ l) (rest h)

-- the elements seen by what they show
pub add_to_list-map : {K X Y : Type 0} (eq : K → K → Bool) (f : X → Y) (es : List (K × List X)) (k : K) (x : X)
    → map (λ e. (e.0, map f e.1)) (add_to_list eq es k x) ≡ add_to_list eq (map (λ e. (e.0, map f e.1)) es) k (f x)
add_to_list-map eq f [] k x = refl
add_to_list-map {K} {X} {Y} eq f (e ∷ es) k x = by (eq k e.0) (add_to_list-map eq f es k x)
  where
    shown : List (K × List X) → List (K × List Y)
    shown l = map (λ e. (e.0, map f e.1)) l

    by : (b : Bool) → map (λ e. (e.0, map f e.1)) (add_to_list eq es k x) ≡ add_to_list eq (map (λ e. (e.0, map f e.1)) es) k (f x)
        → map (λ e. (e.0, map f e.1)) (cond b ((e.0, e.1 ++ x ∷ []) ∷ es) (e ∷ add_to_list eq es k x))
        ≡ cond b ((e.0, map f e.1 ++ f x ∷ []) ∷ map (λ e. (e.0, map f e.1)) es) ((e.0, map f e.1) ∷ add_to_list eq (map (λ e. (e.0, map f e.1)) es) k (f x))
    by true rest = ap (λ l. (e.0, l) ∷ map (λ e. (e.0, map f e.1)) es) (map-append f e.1 (x ∷ []))
    by false rest = ap (λ l. (e.0, map f e.1) ∷ l) rest

-- a table of lists has the keys of its entries
pub keys_of_lists : {K X : Type 0} (es : List (K × SmallVec X)) → map (λ e. e.0) (lists_of es) ≡ map (λ e. e.0) es
keys_of_lists [] = refl
keys_of_lists (e ∷ es) = ap (λ ks. e.0 ∷ ks) (keys_of_lists es)
