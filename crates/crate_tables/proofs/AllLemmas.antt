-- What holds of all of a list, by its parts, and of all that the entries of a table have.
use Rattle.std.proofs.Common.{◌≡◌, ℕ, zero, suc, Bool, true, false, cond, List, [], ◌∷◌, ◌++◌, Some, map, set, slice_get, subst}
use Rattle.std.specs.List.{AllByRecursion, flat_map}
use Rattle.indexmap.specs.IndexMap.{insert_entry, set_value_at}

module _ {X : Type 0} (P : X → Type 0) where
  pub all-left : (xs ys : List X) → AllByRecursion P (xs ++ ys) → AllByRecursion P xs
  all-left [] ys h = tt
  all-left (x ∷ xs) ys h = (h.0, all-left xs ys h.1)

  pub all-right : (xs ys : List X) → AllByRecursion P (xs ++ ys) → AllByRecursion P ys
  all-right [] ys h = h
  all-right (x ∷ xs) ys h = all-right xs ys h.1

  pub all-append : (xs ys : List X) → AllByRecursion P xs → AllByRecursion P ys → AllByRecursion P (xs ++ ys)
  all-append [] ys h g = g
  all-append (x ∷ xs) ys h g = (h.0, all-append xs ys h.1 g)

  pub all-push : (xs : List X) (x : X) → AllByRecursion P xs → P x → AllByRecursion P (xs ++ x ∷ [])
  all-push xs x h p = all-append xs (x ∷ []) h (p, tt)

  pub all-set : (xs : List X) (k : ℕ) (y : X) → AllByRecursion P xs → P y → AllByRecursion P (set xs k y)
  all-set [] k y h g = tt
  all-set (x ∷ xs) zero y h g = (g, h.1)
  all-set (x ∷ xs) (suc k) y h g = (h.0, all-set xs k y h.1 g)

  pub all-get : (xs : List X) (i : ℕ) (x : X) → AllByRecursion P xs → slice_get xs i ≡ Some x → P x
  all-get [] i x h e = cc
  all-get (y ∷ ys) zero x h e = let same : y ≡ x = cc in subst P same h.0
  all-get (y ∷ ys) (suc i) x h e = all-get ys i x h.1 e

pub all-weaker : {X : Type 0} (P Q : X → Type 0) → ((x : X) → P x → Q x) → (xs : List X) → AllByRecursion P xs → AllByRecursion Q xs
all-weaker P Q f [] h = tt
all-weaker P Q f (x ∷ xs) h = (f x h.0, all-weaker P Q f xs h.1)

pub all-mapped : {X Y : Type 0} (P : Y → Type 0) (f : X → Y) (xs : List X) → AllByRecursion (λ x. P (f x)) xs → AllByRecursion P (map f xs)
all-mapped P f [] h = tt
all-mapped P f (x ∷ xs) h = (h.0, all-mapped P f xs h.1)

pub all-joined : {X Y : Type 0} (P : Y → Type 0) (f : X → List Y) (xs : List X) → AllByRecursion (λ x. AllByRecursion P (f x)) xs → AllByRecursion P (flat_map f xs)
all-joined P f [] h = tt
all-joined P f (x ∷ xs) h = all-append P (f x) (flat_map f xs) h.0 (all-joined P f xs h.1)

-- ---- Tables

-- with a value written
pub value-written : {K X : Type 0} (Q : X → Type 0) (es : List (K × X)) (i : ℕ) (y : X) → AllByRecursion (λ e. Q e.1) es → Q y → AllByRecursion (λ e. Q e.1) (set_value_at es i y)
value-written Q [] i y h g = tt
value-written Q (e ∷ es) zero y h g = (g, h.1)
value-written Q (e ∷ es) (suc i) y h g = (h.0, value-written Q es i y h.1 g)

pub value-at : {K X : Type 0} (Q : X → Type 0) (es : List (K × X)) (i : ℕ) (x : X) → AllByRecursion (λ e. Q e.1) es → slice_get (map (λ e. e.1) es) i ≡ Some x → Q x
value-at Q [] i x h e = cc
value-at Q (y ∷ ys) zero x h e = let same : y.1 ≡ x = cc in subst Q same h.0
value-at Q (y ∷ ys) (suc i) x h e = value-at Q ys i x h.1 e

-- with a value put under a key: an entry that is there keeps its key
pub entry-put : {K X Y : Type 0} (P : Y → Type 0) (f : K × X → List Y) (same : K → K → Bool)
    → ((a k : K) (x y : X) → AllByRecursion P (f (a, x)) → AllByRecursion P (f (k, y)) → AllByRecursion P (f (a, y)))
    → (es : List (K × X)) (k : K) (y : X) → AllByRecursion P (flat_map f es) → AllByRecursion P (f (k, y)) → AllByRecursion P (flat_map f (insert_entry same es k y))
entry-put P f same mixed [] k y h g = all-append P (f (k, y)) [] g tt
entry-put {K} {X} P f same mixed (e ∷ es) k y h g = by (same k e.0) (entry-put P f same mixed es k y (all-right P (f e) (flat_map f es) h) g)
  where
    by : (b : Bool) → AllByRecursion P (flat_map f (insert_entry same es k y)) → AllByRecursion P (flat_map f (cond b ((e.0, y) ∷ es) (e ∷ insert_entry same es k y)))
    by true rest = all-append P (f (e.0, y)) (flat_map f es) (mixed e.0 k e.1 y (all-left P (f e) (flat_map f es) h) g) (all-right P (f e) (flat_map f es) h)
    by false rest = all-append P (f e) (flat_map f (insert_entry same es k y)) (all-left P (f e) (flat_map f es) h) rest

-- the same where the value alone counts
pub value-put : {K X : Type 0} (Q : X → Type 0) (same : K → K → Bool) (es : List (K × X)) (k : K) (y : X) → AllByRecursion (λ e. Q e.1) es → Q y → AllByRecursion (λ e. Q e.1) (insert_entry same es k y)
value-put Q same [] k y h g = (g, tt)
value-put {K} {X} Q same (e ∷ es) k y h g = by (same k e.0) (value-put Q same es k y h.1 g)
  where
    by : (b : Bool) → AllByRecursion (λ (x : K × X). Q x.1) (insert_entry same es k y) → AllByRecursion (λ (x : K × X). Q x.1) (cond b ((e.0, y) ∷ es) (e ∷ insert_entry same es k y))
    by true rest = (g, h.1)
    by false rest = (h.0, rest)
