-- What holds of all of a list, by its parts.
use Rattle.std.proofs.Common.{◌≡◌, ℕ, zero, suc, Bool, true, false, cond, List, [], ◌∷◌, ◌++◌, Option, None, Some, IsSome, map, set, slice_get, refl, subst, sym, true≢false}
use Rattle.std.specs.Option.{ForSome}
use Rattle.std.specs.List.{AllByRecursion, flat_map}
use Rattle.std.specs.Map.{lookup}

module _ {X : Type 0} (P : X → Type 0) where
  pub all-left : (xs ys : List X) → AllByRecursion P (xs ++ ys) → AllByRecursion P xs
  all-left [] ys h = tt
  all-left (x ∷ xs) ys h = (h.0, all-left xs ys h.1)

  pub all-right : (xs ys : List X) → AllByRecursion P (xs ++ ys) → AllByRecursion P ys
  all-right [] ys h = h
  all-right (x ∷ xs) ys h = all-right xs ys h.1

  pub all-append : (xs ys : List X) → AllByRecursion P xs → AllByRecursion P ys → AllByRecursion P (xs ++ ys)
  all-append [] ys h g = g
  all-append (x ∷ xs) ys h g = (h.0, all-append xs ys h.1 g)

  pub all-push : (xs : List X) (x : X) → AllByRecursion P xs → P x → AllByRecursion P (xs ++ x ∷ [])
  all-push xs x h p = all-append xs (x ∷ []) h (p, tt)

  pub all-set : (xs : List X) (k : ℕ) (y : X) → AllByRecursion P xs → P y → AllByRecursion P (set xs k y)
  all-set [] k y h g = tt
  all-set (x ∷ xs) zero y h g = (g, h.1)
  all-set (x ∷ xs) (suc k) y h g = (h.0, all-set xs k y h.1 g)

  pub all-get : (xs : List X) (i : ℕ) (x : X) → AllByRecursion P xs → slice_get xs i ≡ Some x → P x
  all-get [] i x h e = cc
  all-get (y ∷ ys) zero x h e = let same : y ≡ x = cc in subst P same h.0
  all-get (y ∷ ys) (suc i) x h e = all-get ys i x h.1 e

pub all-weaker : {X : Type 0} (P Q : X → Type 0) → ((x : X) → P x → Q x) → (xs : List X) → AllByRecursion P xs → AllByRecursion Q xs
all-weaker P Q f [] h = tt
all-weaker P Q f (x ∷ xs) h = (f x h.0, all-weaker P Q f xs h.1)

pub all-map : {X Y : Type 0} (P : Y → Type 0) (f : X → Y) (xs : List X) → AllByRecursion P (map f xs) → AllByRecursion (λ x. P (f x)) xs
all-map P f [] h = tt
all-map P f (x ∷ xs) h = (h.0, all-map P f xs h.1)

pub all-flat_map : {X Y : Type 0} (P : Y → Type 0) (f : X → List Y) (xs : List X) → AllByRecursion P (flat_map f xs) → AllByRecursion (λ x. AllByRecursion P (f x)) xs
all-flat_map P f [] h = tt
all-flat_map P f (x ∷ xs) h = (all-left P (f x) (flat_map f xs) h, all-flat_map P f xs (all-right P (f x) (flat_map f xs) h))

pub map-all : {X Y : Type 0} (P : Y → Type 0) (f : X → Y) (xs : List X) → AllByRecursion (λ x. P (f x)) xs → AllByRecursion P (map f xs)
map-all P f [] h = tt
map-all P f (x ∷ xs) h = (h.0, map-all P f xs h.1)

-- what holds of all entries of a table holds of the one that a look-up finds: of its key, and of its value
pub found-entry : {K X : Type 0} (P : K × X → Type 0) (test : K → Bool) (es : List (K × X)) (x : X) → AllByRecursion P es → lookup test es ≡ Some x → (k : K) × (test k ≡ true) × P (k, x)
found-entry P test [] x h e = cc
found-entry {K} {X} P test (y ∷ ys) x h e = by (test y.0) refl e (found-entry P test ys x h.1)
  where
    Found : Type 0
    Found = (k : K) × (test k ≡ true) × P (k, x)

    by : (b : Bool) → test y.0 ≡ b → cond b (Some y.1) (lookup test ys) ≡ Some x → (lookup test ys ≡ Some x → Found) → Found
    by true passes g rest = let same : y.1 ≡ x = cc in (y.0, passes, subst (λ v. P (y.0, v)) same h.0)
    by false fails g rest = rest g

pub found : {K X : Type 0} (P : X → Type 0) (test : K → Bool) (es : List (K × X)) (x : X) → AllByRecursion (λ e. P e.1) es → lookup test es ≡ Some x → P x
found P test es x h e = (found-entry (λ y. P y.1) test es x h e).2

-- what is said of what an option has
pub for_none : {X : Type 0} (P : X → Type 0) → ForSome None P
for_none P x e = cc

pub for_some : {X : Type 0} (P : X → Type 0) (y : X) → P y → ForSome (Some y) P
for_some P y p x e = let same : y ≡ x = cc in subst P same p

pub some-is : {X : Type 0} (o : Option X) → IsSome o → (x : X) × (o ≡ Some x)
some-is None h = absurd (true≢false (sym h))
some-is (Some x) h = (x, refl)
