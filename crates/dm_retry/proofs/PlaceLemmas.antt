-- The places that an index has under its names.
use Rattle.std.proofs.Common.{◌≡◌, ◌≢◌, ◌⊎◌, inl, inr, ◌∙◌, ◌&&◌, ◌||◌, ℕ, Bool, true, false, cond, not, Result, Ok, Err, OnOk, List, [], ◌∷◌, ◌++◌, Option, None, Some, is_some, if◌then◌else◌, ap, refl, sym, subst, filter, nat_eq}
use Rattle.std.proofs.lemmas.List.Folds.{list_any-append}
use Rattle.std.proofs.lemmas.Bool.{eqb-true, ne_eqb}
use Rattle.std.proofs.lemmas.Bool.Decides.{eqb_tells}
use Rattle.std.proofs.lemmas.Slice.Eq.{bytes_eq-Decides}
use Rattle.std.proofs.lemmas.Map.{lookup-set_value}
use Rattle.std.specs.Cmp.Lexicographic.{nat_list_eq_equiv}
use Rattle.std.specs.List.{list_any}
use Rattle.std.specs.Map.{lookup, set_value}
use Rattle.std.specs.Option.{option_map_or}
use Rattle.std.specs.Str.{bytes_eq}
use Rattle.dm_retry.specs.Index.{Entries, has_place, places_of}
use Rattle.dm_base.specs.Names.{Name}

or_false : (b : Bool) → (b || false) ≡ b
or_false true = refl
or_false false = refl

and_true : (b : Bool) → (b && true) ≡ b
and_true true = refl
and_true false = refl

-- the places that a look-up found
abbrev pub found : Option (List ℕ) → List ℕ
found o = option_map_or (λ ks. ks) o []

-- the places under a name after a write of its list: those written, and under another name those that were there
pub places-set : (es : Entries) (m : Name) (ks l : List ℕ) → lookup (bytes_eq m) es ≡ Some ks → (n : Name) → places_of (set_value (bytes_eq m) es l) n ≡ (if bytes_eq n m then l else places_of es n)
places-set es m ks l h n =
    ap found (lookup-set_value nat_list_eq_equiv (bytes_eq m) (nat_list_eq_equiv.congr m) n l es (ap is_some h))
    ∙ by (bytes_eq m n)
    ∙ ap (λ c. if c then l else places_of es n) (nat_list_eq_equiv.symm m n)
  where
    by : (b : Bool) → found (cond b (Some l) (lookup (bytes_eq n) es)) ≡ (if b then l else places_of es n)
    by true = refl
    by false = refl

-- and after a new name was added with a list
last-new : (t : Name → Bool) (es : Entries) (m : Name) (l : List ℕ) → lookup t es ≡ None → lookup t (es ++ (m, l) ∷ []) ≡ cond (t m) (Some l) None
last-new t [] m l h = refl
last-new t (e ∷ es) m l h = by (t e.0) h (last-new t es m l)
  where
    by : (b : Bool) → cond b (Some e.1) (lookup t es) ≡ None → (lookup t es ≡ None → lookup t (es ++ (m, l) ∷ []) ≡ cond (t m) (Some l) None)
        → cond b (Some e.1) (lookup t (es ++ (m, l) ∷ [])) ≡ cond (t m) (Some l) None
    by true h rest = cc
    by false h rest = rest h

last-other : (t : Name → Bool) (es : Entries) (m : Name) (l : List ℕ) → t m ≡ false → lookup t (es ++ (m, l) ∷ []) ≡ lookup t es
last-other t [] m l h = ap (λ c. cond c (Some l) None) h
last-other t (e ∷ es) m l h = ap (cond (t e.0) (Some e.1)) (last-other t es m l h)

pub places-new : (es : Entries) (m : Name) (l : List ℕ) → lookup (bytes_eq m) es ≡ None → (n : Name) → places_of (es ++ (m, l) ∷ []) n ≡ (if bytes_eq n m then l else places_of es n)
places-new es m l h n = by (bytes_eq n m) refl
  where
    by : (b : Bool) → bytes_eq n m ≡ b → places_of (es ++ (m, l) ∷ []) n ≡ (if b then l else places_of es n)
    by true q =
        let same : n ≡ m = (bytes_eq-Decides n m).0 q in
        ap found (last-new (bytes_eq n) es m l (subst (λ (x : Name). lookup (bytes_eq x) es ≡ None) (sym same) h) ∙ ap (λ c. cond c (Some l) None) q)
    by false q = ap found (last-other (bytes_eq n) es m l q)

-- which places an index has after the list of one name was written
module _ (es es' : Entries) (m : Name) (k : ℕ) (l : List ℕ) (written : (n : Name) → places_of es' n ≡ (if bytes_eq n m then l else places_of es n)) where
  has-written : (n : Name) (j : ℕ) → has_place es' n j ≡ (if bytes_eq n m then list_any (nat_eq j) l else has_place es n j)
  has-written n j = ap (list_any (nat_eq j)) (written n) ∙ by (bytes_eq n m)
    where
      by : (b : Bool) → list_any (nat_eq j) (if b then l else places_of es n) ≡ (if b then list_any (nat_eq j) l else has_place es n j)
      by true = refl
      by false = refl

  pub has-added : ((j : ℕ) → list_any (nat_eq j) l ≡ (has_place es m j || nat_eq j k)) → (n : Name) (j : ℕ) → has_place es' n j ≡ (has_place es n j || (bytes_eq n m && nat_eq j k))
  has-added added n j = has-written n j ∙ by (bytes_eq n m) refl
    where
      by : (b : Bool) → bytes_eq n m ≡ b → (if b then list_any (nat_eq j) l else has_place es n j) ≡ (has_place es n j || (b && nat_eq j k))
      by true q = added j ∙ ap (λ (x : Name). has_place es x j || nat_eq j k) (sym ((bytes_eq-Decides n m).0 q))
      by false q = sym (or_false (has_place es n j))

  pub has-removed : ((j : ℕ) → list_any (nat_eq j) l ≡ (has_place es m j && not (nat_eq j k))) → (n : Name) (j : ℕ) → has_place es' n j ≡ (has_place es n j && not (bytes_eq n m && nat_eq j k))
  has-removed removed n j = has-written n j ∙ by (bytes_eq n m) refl
    where
      by : (b : Bool) → bytes_eq n m ≡ b → (if b then list_any (nat_eq j) l else has_place es n j) ≡ (has_place es n j && not (b && nat_eq j k))
      by true q = removed j ∙ ap (λ (x : Name). has_place es x j && not (nat_eq j k)) (sym ((bytes_eq-Decides n m).0 q))
      by false q = sym (and_true (has_place es n j))

  pub has-kept : ((j : ℕ) → list_any (nat_eq j) l ≡ has_place es m j) → (n : Name) (j : ℕ) → has_place es' n j ≡ has_place es n j
  has-kept stays n j = has-written n j ∙ by (bytes_eq n m) refl
    where
      by : (b : Bool) → bytes_eq n m ≡ b → (if b then list_any (nat_eq j) l else has_place es n j) ≡ has_place es n j
      by true q = stays j ∙ ap (λ (x : Name). has_place es x j) (sym ((bytes_eq-Decides n m).0 q))
      by false q = refl

-- lists of places with one more, and without one
pub any-push : (ks : List ℕ) (k j : ℕ) → list_any (nat_eq j) (ks ++ k ∷ []) ≡ (list_any (nat_eq j) ks || nat_eq j k)
any-push ks k j = list_any-append (nat_eq j) ks (k ∷ []) ∙ ap (λ b. list_any (nat_eq j) ks || b) (or_false (nat_eq j k))

pub any-without : (ks : List ℕ) (k j : ℕ) → list_any (nat_eq j) (filter (λ place. not (nat_eq place k)) ks) ≡ (list_any (nat_eq j) ks && not (nat_eq j k))
any-without [] k j = refl
any-without (p ∷ ks) k j = by (eqb_tells p k) (any-without ks k j)
  where
    dropped : (e a : Bool) → (a && not e) ≡ ((e || a) && not e)
    dropped true true = refl
    dropped true false = refl
    dropped false a = refl

    stays : (x e a : Bool) → (x ≡ true → e ≡ false) → (x || (a && not e)) ≡ ((x || a) && not e)
    stays true e a h = sym (ap not (h refl))
    stays false e a h = refl

    by : ((nat_eq p k ≡ true) × (p ≡ k)) ⊎ ((nat_eq p k ≡ false) × (p ≢ k)) → list_any (nat_eq j) (filter (λ place. not (nat_eq place k)) ks) ≡ (list_any (nat_eq j) ks && not (nat_eq j k))
        → list_any (nat_eq j) (cond (not (nat_eq p k)) (p ∷ filter (λ place. not (nat_eq place k)) ks) (filter (λ place. not (nat_eq place k)) ks)) ≡ ((nat_eq j p || list_any (nat_eq j) ks) && not (nat_eq j k))
    by (inl e) rest =
        ap (λ c. list_any (nat_eq j) (cond (not c) (p ∷ filter (λ place. not (nat_eq place k)) ks) (filter (λ place. not (nat_eq place k)) ks))) e.0 ∙ rest
        ∙ dropped (nat_eq j k) (list_any (nat_eq j) ks)
        ∙ ap (λ q. (nat_eq j q || list_any (nat_eq j) ks) && not (nat_eq j k)) (sym e.1)
    by (inr e) rest =
        ap (λ c. list_any (nat_eq j) (cond (not c) (p ∷ filter (λ place. not (nat_eq place k)) ks) (filter (λ place. not (nat_eq place k)) ks))) e.0
        ∙ ap (λ b. nat_eq j p || b) rest
        ∙ stays (nat_eq j p) (nat_eq j k) (list_any (nat_eq j) ks) (λ is. ne_eqb j k (λ h. e.1 (sym (eqb-true j p is) ∙ h)))

-- what an `Ok` tells, by what follows from it
pub on-ok : {T E : Type 0} (r : Result T E) {P Q : Type 0} → (P → Q) → OnOk r P → OnOk r Q
on-ok (Ok x) f h = f h
on-ok (Err e) f h = h
