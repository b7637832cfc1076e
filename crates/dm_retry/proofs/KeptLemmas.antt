-- What a worklist keeps of its imports.
use Rattle.std.proofs.Common.{◌≡◌, ◌∙◌, ◌/◌, ◌<◌, ◌≤◌, ◌⊎◌, inl, inr, ◌&&◌, ◌||◌, ℕ, zero, suc, Bool, true, false, Option, None, Some, option_map, map, get_or, List, [], ◌∷◌, ◌++◌, if◌then◌else◌, ap, refl, sym, subst, arith, length, nat_eq, slice_get, slice_set, true≢false}
use Rattle.std.proofs.lemmas.Bool.{ne_eqb}
use Rattle.std.proofs.lemmas.Option.{slice_get-map, slice_get_cases, slice_get_past}
use Rattle.std.proofs.lemmas.List.{length-append}
use Rattle.std.specs.Option.{option_map_or}
use Rattle.dm_base.specs.Names.{Name}
use Rattle.dm_retry.specs.Bits.{IsFirst, has}
use Rattle.dm_retry.specs.Index.{Entries, Indexes, IsKept, IsReady, Marks, all_marked, has_place, places_of, waits_for}
use Rattle.dm_retry.proofs.WorklistLemmas.{all_marked-awoken, indexes-awoken, indexes-marked_at, nat_eq-later, same_places}
use Rattle.dm_maps.specs.Cut.{among}
use Rattle.dm_retry.specs.Rounds.{Pending, awoken, marked, marked_at}
use Rattle.dm_retry.specs.Unresolved.{AllDirty, is_dirty_at}

and_true : (b : Bool) → b ≡ (b && true)
and_true true = refl
and_true false = refl

or_no : (a b : Bool) → a ≡ (a || (b && false))
or_no true b = refl
or_no false true = refl
or_no false false = refl

put-back : {X : Type 0} (xs : List X) (k : ℕ) (x : X) → slice_get xs k ≡ Some x → slice_set xs k x ≡ xs
put-back [] k x is = refl
put-back (y ∷ xs) zero x is = let same : y ≡ x = cc in ap (λ z. z ∷ xs) (sym same)
put-back (y ∷ xs) (suc k) x is = ap (λ l. y ∷ l) (put-back xs k x is)

-- ---- One import more

waits_for-push : (xs : List Pending) (x : Pending) (n : Name) (j : ℕ) → waits_for (xs ++ x ∷ []) n j ≡ (waits_for xs n j || (among x.path.segments n && nat_eq j (length xs)))
waits_for-push [] x n zero = and_true (among x.path.segments n)
waits_for-push [] x n (suc j) = or_no false (among x.path.segments n) ∙ ap (λ b. among x.path.segments n && b) (sym (ne_eqb (suc j) 0 (λ e. omega arith)))
waits_for-push (y ∷ xs) x n zero = or_no (among y.path.segments n) (among x.path.segments n) ∙ ap (λ b. among y.path.segments n || (among x.path.segments n && b)) (sym (ne_eqb 0 (suc (length xs)) (λ e. omega arith)))
waits_for-push (y ∷ xs) x n (suc j) = waits_for-push xs x n j ∙ ap (λ b. waits_for xs n j || (among x.path.segments n && b)) (sym (nat_eq-later j (length xs)))

is_dirty-push : (xs : List Pending) (x : Pending) (j : ℕ) → is_dirty_at (xs ++ x ∷ []) j ≡ (if nat_eq j (length xs) then x.due else is_dirty_at xs j)
is_dirty-push [] x zero = refl
is_dirty-push [] x (suc j) = ap (λ b. if b then x.due else false) (sym (ne_eqb (suc j) 0 (λ e. omega arith)))
is_dirty-push (y ∷ xs) x zero = ap (λ b. if b then x.due else y.due) (sym (ne_eqb 0 (suc (length xs)) (λ e. omega arith)))
is_dirty-push (y ∷ xs) x (suc j) = is_dirty-push xs x j ∙ ap (λ b. if b then x.due else is_dirty_at xs j) (sym (nat_eq-later j (length xs)))

pub kept-push : (es es' : Entries) (ws ws' : List ℕ) (xs : List Pending) (x : Pending) (k : ℕ) → k ≡ length xs → IsKept es ws xs
    → ((n : Name) (j : ℕ) → has_place es' n j ≡ (has_place es n j || (among x.path.segments n && nat_eq j k)))
    → ((j : ℕ) → has ws' j ≡ (if nat_eq j k then x.due else has ws j)) → length ws ≤ length ws' → k / 64 < length ws'
    → IsKept es' ws' (xs ++ x ∷ [])
kept-push es es' ws ws' xs x k is kept places marks len room = record {
  indexed = record {
    places = λ n j.
        places n j ∙ ap (λ b. b || (among x.path.segments n && nat_eq j k)) (kept.indexed.places n j) ∙ ap (λ i. waits_for xs n j || (among x.path.segments n && nat_eq j i)) is
        ∙ sym (waits_for-push xs x n j);
  };
  marks = record {
    dirty = λ j. marks j ∙ ap (λ b. if nat_eq j k then x.due else b) (kept.marks.dirty j) ∙ ap (λ i. if nat_eq j i then x.due else is_dirty_at xs j) is
        ∙ sym (is_dirty-push xs x j);
    room = λ j h. omega (arith, length-append xs (x ∷ []));
  };
}

-- ---- Imports that are all dirty

-- the first is the next
pub all-first : (xs : List Pending) (from : ℕ) → AllDirty xs → from < length xs → IsFirst (is_dirty_at xs) from (Some from)
all-first xs from all within = (omega arith, by (slice_get_cases xs from).1, λ k low high. absurd (omega arith))
  where
    by : ((x : Pending) × (from < length xs) × (slice_get xs from ≡ Some x) × (get_or xs from x ≡ x)) ⊎ ((length xs ≤ from) × (slice_get xs from ≡ None)) → is_dirty_at xs from ≡ true
    by (inl h) = ap (λ (o : Option Pending). option_map_or (λ (p : Pending). p.due) o false) h.2 ∙ all from h.0 h.2
    by (inr h) = absurd (omega (arith, h.0))

pub none-first : (xs : List Pending) (from : ℕ) → length xs ≤ from → IsFirst (is_dirty_at xs) from None
none-first xs from past k low = ap (λ (o : Option Pending). option_map_or (λ (p : Pending). p.due) o false) (slice_get_past xs k (omega arith))

-- a place that is dirty is one of the list
pub dirty-within : (xs : List Pending) (k : ℕ) → is_dirty_at xs k ≡ true → k < length xs
dirty-within xs k is = by (slice_get_cases xs k).1
  where
    by : ((x : Pending) × (k < length xs) × (slice_get xs k ≡ Some x) × (get_or xs k x ≡ x)) ⊎ ((length xs ≤ k) × (slice_get xs k ≡ None)) → k < length xs
    by (inl h) = h.1
    by (inr h) = absurd (true≢false (sym is ∙ ap (λ (o : Option Pending). option_map_or (λ (p : Pending). p.due) o false) h.1))

-- they stay so, whatever name is bound
pub all-awoken : (xs : List Pending) (n : Name) → AllDirty xs → map (awoken n) xs ≡ xs
all-awoken xs n all = same_places (map (awoken n) xs) xs (λ k. slice_get-map (awoken n) xs k ∙ by (slice_get xs k) (all k))
  where
    by : (o : Option Pending) → ((x : Pending) → o ≡ Some x → x.due ≡ true) → option_map (awoken n) o ≡ o
    by None h = refl
    by (Some x) h = let dirty = h x refl in ap (λ b. Some (marked (b || among x.path.segments n) x)) dirty ∙ ap (λ b. Some (marked b x)) (sym dirty) ∙ ap Some (refl)

-- and whichever is marked dirty once more
pub all-marked_at : (xs : List Pending) (k : ℕ) → AllDirty xs → marked_at xs k true ≡ xs
all-marked_at xs k all = by (slice_get xs k) refl
  where
    by : (o : Option Pending) → slice_get xs k ≡ o → option_map_or (λ x. slice_set xs k (marked true x)) o xs ≡ xs
    by None is = refl
    by (Some x) is = ap (slice_set xs k) (ap (λ d. marked d x) (sym (all k x is)) ∙ refl) ∙ put-back xs k x is

pub all-marked : (xs : List Pending) → AllDirty (map (marked true) xs)
all-marked xs k x is = by (slice_get xs k) (sym (slice_get-map (marked true) xs k) ∙ is)
  where
    by : (o : Option Pending) → option_map (marked true) o ≡ Some x → x.due ≡ true
    by None h = cc
    by (Some y) h = let same : marked true y ≡ x = cc in sym (ap (λ (p : Pending). p.due) same) ∙ refl

-- ---- What is kept after a mark, and after those at the places under a name

pub ready-marked : (es : Entries) (ws' : List ℕ) (xs xs' : List Pending) (k : ℕ) (d : Bool) (ready : Bool) → ready ≡ true → Indexes es xs → xs' ≡ marked_at xs k d → Marks ws' xs' → IsReady ready es ws' xs'
ready-marked es ws' xs xs' k d ready is indexed marked marks = record {
  kept = λ _. record { indexed = subst (Indexes es) (sym marked) (indexes-marked_at es xs k d indexed); marks = marks };
  before = λ h. absurd (true≢false (sym is ∙ h));
}

pub woken : (es : Entries) (xs xs' : List Pending) (n : Name) (ks : List ℕ) → Indexes es xs → ks ≡ places_of es n → xs' ≡ all_marked ks xs → xs' ≡ map (awoken n) xs
woken es xs xs' n ks indexed are marked = marked ∙ ap (λ l. all_marked l xs) are ∙ all_marked-awoken (places_of es n) xs n (indexed.places n)

pub ready-woken : (es : Entries) (ws' : List ℕ) (xs xs' : List Pending) (n : Name) (ready : Bool) → ready ≡ true → Indexes es xs → xs' ≡ map (awoken n) xs → Marks ws' xs' → IsReady ready es ws' xs'
ready-woken es ws' xs xs' n ready is indexed marked marks = record {
  kept = λ _. record { indexed = subst (Indexes es) (sym marked) (indexes-awoken es xs n indexed); marks = marks };
  before = λ h. absurd (true≢false (sym is ∙ h));
}
