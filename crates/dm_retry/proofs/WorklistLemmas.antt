-- Worklists, place by place.
use Rattle.std.proofs.Common.{◌≡◌, ◌∙◌, ◌<◌, ◌≤◌, ◌||◌, ◌≢◌, ◌⊎◌, inl, inr, ℕ, zero, suc, Bool, true, false, List, [], ◌∷◌, Option, None, Some, if◌then◌else◌, ap, ap₂, refl, subst, sym, arith, length, map, nat_eq, option_map, slice_get, slice_set, take, drop, ◌++◌, append-nil}
use Rattle.std.proofs.lemmas.List.{take_all, drop_all}
use Rattle.std.proofs.lemmas.Option.{slice_get-map, slice_get_past}
use Rattle.std.proofs.lemmas.Bool.{eq-eqb, ne_eqb}
use Rattle.std.proofs.lemmas.Bool.Decides.{eqb_tells}
use Rattle.std.specs.List.{list_any}
use Rattle.std.proofs.Math.ListN.{length-set}
use Rattle.std.specs.Option.{option_map_or}
use Rattle.dm_base.specs.Names.{Name}
use Rattle.dm_retry.specs.Index.{Entries, Indexes, Marks, all_marked, waits_for}
use Rattle.dm_retry.specs.Bits.{has}
use Rattle.dm_maps.specs.Cut.{among}
use Rattle.dm_retry.specs.Rounds.{Pending, awoken, marked, marked_at}
use Rattle.dm_retry.specs.Unresolved.{is_dirty_at}

-- two lists with the same at each place are the same
pub same_places : {X : Type 0} (xs ys : List X) → ((k : ℕ) → slice_get xs k ≡ slice_get ys k) → xs ≡ ys
same_places [] [] h = refl
same_places [] (y ∷ ys) h = let e = h 0 in cc
same_places (x ∷ xs) [] h = let e = h 0 in cc
same_places (x ∷ xs) (y ∷ ys) h =
    let e = h 0 in
    let first : x ≡ y = cc in
    ap₂ (λ z zs. z ∷ zs) first (same_places xs ys (λ k. h (suc k)))

mapped-same : {X : Type 0} (f : X → X) → ((x : X) → f x ≡ x) → (o : Option X) → option_map f o ≡ o
mapped-same f h None = refl
mapped-same f h (Some x) = ap Some (h x)

pub nat_eq-later : (k j : ℕ) → nat_eq (suc k) (suc j) ≡ nat_eq k j
nat_eq-later k j = by (eqb_tells k j)
  where
    by : ((nat_eq k j ≡ true) × (k ≡ j)) ⊎ ((nat_eq k j ≡ false) × (k ≢ j)) → nat_eq (suc k) (suc j) ≡ nat_eq k j
    by (inl e) = eq-eqb (suc k) (suc j) (ap suc e.1) ∙ sym e.0
    by (inr e) = ne_eqb (suc k) (suc j) (λ h. e.1 (omega arith)) ∙ sym e.0

some_within : {X : Type 0} (xs : List X) (k : ℕ) → slice_get xs k ≡ None → k < length xs → ⊥
some_within [] k is h = omega arith
some_within (x ∷ xs) zero is h = cc
some_within (x ∷ xs) (suc k) is h = some_within xs k is (omega arith)

or_false : (b : Bool) → (b || false) ≡ b
or_false true = refl
or_false false = refl

or_joined : (b d r : Bool) → ((if b then true else d) || r) ≡ (d || (b || r))
or_joined true true r = refl
or_joined true false r = refl
or_joined false d r = refl

later : (x : Pending) (xs : List Pending) (j : ℕ) (d : Bool) → marked_at (x ∷ xs) (suc j) d ≡ x ∷ marked_at xs j d
later x xs j d = by (slice_get xs j)
  where
    by : (o : Option Pending) → option_map_or (λ y. x ∷ slice_set xs j (marked d y)) o (x ∷ xs) ≡ x ∷ option_map_or (λ y. slice_set xs j (marked d y)) o xs
    by None = refl
    by (Some y) = refl

pub length-marked_at : (xs : List Pending) (j : ℕ) (d : Bool) → length (marked_at xs j d) ≡ length xs
length-marked_at xs j d = by (slice_get xs j)
  where
    by : (o : Option Pending) → length (option_map_or (λ y. slice_set xs j (marked d y)) o xs) ≡ length xs
    by None = refl
    by (Some y) = length-set xs j (marked d y)

pub marked_at-past : (xs : List Pending) (j : ℕ) (d : Bool) → length xs ≤ j → marked_at xs j d ≡ xs
marked_at-past xs j d h = ap (λ o. option_map_or (λ y. slice_set xs j (marked d y)) o xs) (slice_get_past xs j h)

-- a mark as the code writes it
pub set-marked_at : (xs : List Pending) (j : ℕ) (d : Bool) (x : Pending) → slice_get xs j ≡ Some x → slice_set xs j (marked d x) ≡ marked_at xs j d
set-marked_at xs j d x is = sym (ap (λ o. option_map_or (λ y. slice_set xs j (marked d y)) o xs) is)

-- what stands at a place after a mark
pub get-marked_at : (xs : List Pending) (j k : ℕ) (d : Bool) → slice_get (marked_at xs j d) k ≡ option_map (λ x. marked (if nat_eq k j then d else x.due) x) (slice_get xs k)
get-marked_at [] j k d = refl
get-marked_at (x ∷ xs) zero zero d = refl
get-marked_at (x ∷ xs) zero (suc k) d =
    sym (mapped-same (λ y. marked (if nat_eq (suc k) 0 then d else y.due) y) (λ y. ap (λ c. marked (if c then d else y.due) y) (ne_eqb (suc k) 0 (λ e. omega arith)) ∙ refl) (slice_get xs k))
get-marked_at (x ∷ xs) (suc j) zero d =
    ap (λ (l : List Pending). slice_get l 0) (later x xs j d)
    ∙ ap Some (sym (refl))
    ∙ sym (ap (λ c. Some (marked (if c then d else x.due) x)) (ne_eqb 0 (suc j) (λ e. omega arith)))
get-marked_at (x ∷ xs) (suc j) (suc k) d =
    ap (λ (l : List Pending). slice_get l (suc k)) (later x xs j d) ∙ get-marked_at xs j k d
    ∙ ap (λ c. option_map (λ y. marked (if c then d else y.due) y) (slice_get xs k)) (sym (nat_eq-later k j))

-- and after marks at many places
pub get-all_marked : (ks : List ℕ) (xs : List Pending) (k : ℕ) → slice_get (all_marked ks xs) k ≡ option_map (λ x. marked (x.due || list_any (nat_eq k) ks) x) (slice_get xs k)
get-all_marked [] xs k = sym (mapped-same (λ x. marked (x.due || false) x) (λ x. ap (λ d. marked d x) (or_false x.due) ∙ refl) (slice_get xs k))
get-all_marked (j ∷ ks) xs k =
    get-all_marked ks (marked_at xs j true) k
    ∙ ap (option_map (λ x. marked (x.due || list_any (nat_eq k) ks) x)) (get-marked_at xs j k true)
    ∙ by (slice_get xs k)
  where
    by : (o : Option Pending) → option_map (λ x. marked (x.due || list_any (nat_eq k) ks) x) (option_map (λ x. marked (if nat_eq k j then true else x.due) x) o) ≡ option_map (λ x. marked (x.due || (nat_eq k j || list_any (nat_eq k) ks)) x) o
    by None = refl
    by (Some x) =
        let first = if nat_eq k j then true else x.due in
        ap Some (ap (λ d. marked (d || list_any (nat_eq k) ks) (marked first x)) (refl) ∙ refl
        ∙ ap (λ d. marked d x) (or_joined (nat_eq k j) x.due (list_any (nat_eq k) ks)))

-- marks at the places under a name wake those that wait for it
pub all_marked-awoken : (ks : List ℕ) (xs : List Pending) (n : Name) → ((k : ℕ) → list_any (nat_eq k) ks ≡ waits_for xs n k) → all_marked ks xs ≡ map (awoken n) xs
all_marked-awoken ks xs n h = same_places (all_marked ks xs) (map (awoken n) xs) (λ k. get-all_marked ks xs k ∙ by k (slice_get xs k) (h k) ∙ sym (slice_get-map (awoken n) xs k))
  where
    by : (k : ℕ) (o : Option Pending) → list_any (nat_eq k) ks ≡ option_map_or (λ x. among x.path.segments n) o false → option_map (λ x. marked (x.due || list_any (nat_eq k) ks) x) o ≡ option_map (awoken n) o
    by k None e = refl
    by k (Some x) e = ap (λ b. Some (marked (x.due || b) x)) e

-- a mark leaves the paths
waits_for-marked_at : (xs : List Pending) (j : ℕ) (d : Bool) (n : Name) (k : ℕ) → waits_for (marked_at xs j d) n k ≡ waits_for xs n k
waits_for-marked_at xs j d n k = ap (λ (o : Option Pending). option_map_or (λ x. among x.path.segments n) o false) (get-marked_at xs j k d) ∙ by (slice_get xs k)
  where
    by : (o : Option Pending) → option_map_or (λ x. among x.path.segments n) (option_map (λ x. marked (if nat_eq k j then d else x.due) x) o) false ≡ option_map_or (λ x. among x.path.segments n) o false
    by None = refl
    by (Some x) = ap (λ N. among N n) (refl)

waits_for-awoken : (xs : List Pending) (m n : Name) (k : ℕ) → waits_for (map (awoken m) xs) n k ≡ waits_for xs n k
waits_for-awoken xs m n k = ap (λ (o : Option Pending). option_map_or (λ x. among x.path.segments n) o false) (slice_get-map (awoken m) xs k) ∙ by (slice_get xs k)
  where
    by : (o : Option Pending) → option_map_or (λ x. among x.path.segments n) (option_map (awoken m) o) false ≡ option_map_or (λ x. among x.path.segments n) o false
    by None = refl
    by (Some x) = ap (λ N. among N n) (refl)

pub indexes-awoken : (es : Entries) (xs : List Pending) (m : Name) → Indexes es xs → Indexes es (map (awoken m) xs)
indexes-awoken es xs m h = record { places = λ n k. h.places n k ∙ sym (waits_for-awoken xs m n k) }

pub indexes-marked_at : (es : Entries) (xs : List Pending) (j : ℕ) (d : Bool) → Indexes es xs → Indexes es (marked_at xs j d)
indexes-marked_at es xs j d h = record { places = λ n k. h.places n k ∙ sym (waits_for-marked_at xs j d n k) }

-- which is dirty after a mark
is_dirty-marked_at : (xs : List Pending) (j : ℕ) (d : Bool) → j < length xs → (k : ℕ) → is_dirty_at (marked_at xs j d) k ≡ if nat_eq k j then d else is_dirty_at xs k
is_dirty-marked_at xs j d within k = ap (λ (o : Option Pending). option_map_or (λ (p : Pending). p.due) o false) (get-marked_at xs j k d) ∙ by (slice_get xs k) refl (eqb_tells k j)
  where
    by : (o : Option Pending) → slice_get xs k ≡ o → ((nat_eq k j ≡ true) × (k ≡ j)) ⊎ ((nat_eq k j ≡ false) × (k ≢ j))
        → option_map_or (λ (p : Pending). p.due) (option_map (λ x. marked (if nat_eq k j then d else x.due) x) o) false ≡ if nat_eq k j then d else option_map_or (λ (p : Pending). p.due) o false
    by None is (inl e) = absurd (some_within xs k is (subst (λ i. i < length xs) (sym e.1) within))
    by None is (inr e) = sym (ap (λ c. if c then d else false) e.0)
    by (Some x) is t = refl

-- bits that tell which imports are dirty, after a change of one place's
pub marks-marked_at : (ws ws' : List ℕ) (xs : List Pending) (j : ℕ) (d : Bool) → j < length xs → Marks ws xs → ((k : ℕ) → has ws' k ≡ if nat_eq k j then d else has ws k) → length ws' ≡ length ws → Marks ws' (marked_at xs j d)
marks-marked_at ws ws' xs j d within m set len = record {
  dirty = λ k. set k ∙ ap (λ b. if nat_eq k j then d else b) (m.dirty k) ∙ sym (is_dirty-marked_at xs j d within k);
  room = λ k h. let r = m.room k (let same = length-marked_at xs j d in omega arith) in omega arith;
}

-- at the end of a loop that puts f of each element in its place it has done so with each
pub each-done : {X : Type 0} (f : X → X) (n : ℕ) (xs : List X) → length xs ≤ n → map f (take n xs) ++ drop n xs ≡ map f xs
each-done f n xs h = ap₂ (λ l r. map f l ++ r) (take_all n xs h) (drop_all n xs h) ∙ append-nil (map f xs)
