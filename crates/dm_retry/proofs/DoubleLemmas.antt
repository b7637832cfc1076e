-- A walk over imports whose numbers rise: where it meets as many as there are, none is listed twice.
use Rattle.std.proofs.Common.{◌≡◌, ◌≢◌, ◌∙◌, ◌<◌, ◌≤◌, ◌⊎◌, inl, inr, ◌+◌, ◌||◌, ℕ, zero, suc, Bool, true, false, cond, if◌then◌else◌, List, [], ◌∷◌, Option, None, Some, ap, refl, sym, arith, is_some, length, slice_get, true≢false}
use Rattle.std.specs.List.{list_any}
use Rattle.dm_base.specs.declared.imports.ImportId.{ImportId}
use Rattle.dm_base.specs.contracts.value_eq.ImportIdValueEq.TheImpl.Laws as import_value
use Rattle.dm_retry.specs.Doubles.{IsNext, floor, number_of}
use Rattle.dm_retry.specs.Known.{double_from, first_double, is_listed, same_leaf}
use Rattle.dm_retry.specs.Rounds.{Pending}
use Rattle.dm_retry.proofs.StartLemmas.{import-refl, singles}

-- whether an import is one of these
abbrev pub among : List ImportId → ImportId → Bool
among is i = list_any (same_leaf i) is

-- none of them stands there twice
abbrev pub Distinct : List ImportId → Type 0
Distinct [] = Unit
Distinct (i ∷ is) = (among is i ≡ false) × Distinct is

-- a walk over different imports of the list, none with a number above the last
pub record Walked (ps : List Pending) (count : ℕ) (last : Option ℕ) : Type 0 where
  pub imports : List ImportId
  pub len : length imports ≡ count
  pub distinct : Distinct imports
  pub listed : (i : ImportId) → among imports i ≡ true → is_listed ps i ≡ true
  pub below : (i : ImportId) → among imports i ≡ true → number_of i < floor last

either : (a b : Bool) → (a || b) ≡ true → (a ≡ true) ⊎ (b ≡ true)
either true b h = inl refl
either false b h = inr h

or_right : (a b : Bool) → b ≡ true → (a || b) ≡ true
or_right true b h = refl
or_right false b h = h

or_left : (a b : Bool) → a ≡ true → (a || b) ≡ true
or_left true b h = refl
or_left false b h = cc

listed-at : (ps : List Pending) (k : ℕ) (p : Pending) → slice_get ps k ≡ Some p → is_listed ps p.import ≡ true
listed-at [] k p at = cc
listed-at (q ∷ ps) zero p at =
    let same : q ≡ p = cc in
    or_left (same_leaf p.import q.import) (is_listed ps p.import) (ap (λ (z : Pending). same_leaf p.import z.import) same ∙ import-refl p.import)
listed-at (q ∷ ps) (suc k) p at = or_right (same_leaf p.import q.import) (is_listed ps p.import) (listed-at ps k p at)

pub start : (ps : List Pending) → Walked ps 0 None
start ps = record { imports = []; len = refl; distinct = tt; listed = λ i h. cc; below = λ i h. cc }

pub step : (ps : List Pending) (count : ℕ) (last : Option ℕ) (number : ℕ) → Walked ps count last → IsNext ps last number → Walked ps (count + 1) (Some number)
step ps count last number w n = record {
  imports = n.pending.import ∷ w.imports;
  len = omega (arith, w.len);
  distinct = (new (among w.imports n.pending.import) refl, w.distinct);
  listed = λ i h. by-listed i (either (same_leaf i n.pending.import) (among w.imports i) h);
  below = λ i h. by-below i (either (same_leaf i n.pending.import) (among w.imports i) h);
}
  where
    new : (b : Bool) → among w.imports n.pending.import ≡ b → b ≡ false
    new true is = absurd (omega (arith, w.below n.pending.import is, n.above, n.is))
    new false is = refl

    by-listed : (i : ImportId) → (same_leaf i n.pending.import ≡ true) ⊎ (among w.imports i ≡ true) → is_listed ps i ≡ true
    by-listed i (inl e) = ap (is_listed ps) (import_value.same-law i n.pending.import e) ∙ listed-at ps n.place n.pending n.at
    by-listed i (inr e) = w.listed i e

    by-below : (i : ImportId) → (same_leaf i n.pending.import ≡ true) ⊎ (among w.imports i ≡ true) → number_of i < suc number
    by-below i (inl e) = let same = ap number_of (import_value.same-law i n.pending.import e) in omega (arith, same, n.is)
    by-below i (inr e) = omega (arith, w.below i e, n.above)

-- ---- As many different imports as the list has are all of the list

-- these without the first that is x
abbrev without : ImportId → List ImportId → List ImportId
without x [] = []
without x (i ∷ is) = if same_leaf i x then is else i ∷ without x is

without-length : (x : ImportId) (is : List ImportId) → length is ≤ suc (length (without x is))
without-length x [] = omega arith
without-length x (i ∷ is) = by (same_leaf i x) (without-length x is)
  where
    by : (b : Bool) → length is ≤ suc (length (without x is)) → suc (length is) ≤ suc (length (if b then is else i ∷ without x is))
    by true h = omega arith
    by false h = omega (arith, h)

without-among : (x : ImportId) (is : List ImportId) (j : ImportId) → among (without x is) j ≡ true → among is j ≡ true
without-among x [] j h = h
without-among x (i ∷ is) j h = by (same_leaf i x) h (without-among x is j)
  where
    by : (b : Bool) → among (if b then is else i ∷ without x is) j ≡ true → (among (without x is) j ≡ true → among is j ≡ true) → (same_leaf j i || among is j) ≡ true
    by true h rest = or_right (same_leaf j i) (among is j) h
    by false h rest = at (either (same_leaf j i) (among (without x is) j) h)
      where
        at : (same_leaf j i ≡ true) ⊎ (among (without x is) j ≡ true) → (same_leaf j i || among is j) ≡ true
        at (inl e) = or_left (same_leaf j i) (among is j) e
        at (inr e) = or_right (same_leaf j i) (among is j) (rest e)

not-among : (x : ImportId) (is : List ImportId) (j : ImportId) → among is j ≡ false → among (without x is) j ≡ false
not-among x is j none = by (among (without x is) j) refl
  where
    by : (b : Bool) → among (without x is) j ≡ b → b ≡ false
    by true e = absurd (true≢false (sym (without-among x is j e) ∙ none))
    by false e = refl

without-distinct : (x : ImportId) (is : List ImportId) → Distinct is → Distinct (without x is)
without-distinct x [] d = tt
without-distinct x (i ∷ is) d = by (same_leaf i x) (without-distinct x is d.1)
  where
    by : (b : Bool) → Distinct (without x is) → Distinct (if b then is else i ∷ without x is)
    by true h = d.1
    by false h = (not-among x is i d.0, h)

-- what is left is not x
without-other : (x : ImportId) (is : List ImportId) → Distinct is → (j : ImportId) → among (without x is) j ≡ true → same_leaf j x ≡ false
without-other x [] d j h = absurd (true≢false (sym h))
without-other x (i ∷ is) d j h = by (same_leaf i x) refl h (without-other x is d.1 j)
  where
    by : (b : Bool) → same_leaf i x ≡ b → among (if b then is else i ∷ without x is) j ≡ true → (among (without x is) j ≡ true → same_leaf j x ≡ false) → same_leaf j x ≡ false
    by true e h rest = at (same_leaf j x) refl
      where
        at : (c : Bool) → same_leaf j x ≡ c → c ≡ false
        at true f = absurd (true≢false (sym h ∙ ap (among is) (import_value.same-law j x f ∙ sym (import_value.same-law i x e)) ∙ d.0))
        at false f = refl
    by false e h rest = at (either (same_leaf j i) (among (without x is) j) h)
      where
        at : (same_leaf j i ≡ true) ⊎ (among (without x is) j ≡ true) → same_leaf j x ≡ false
        at (inl f) = ap (λ z. same_leaf z x) (import_value.same-law j i f) ∙ e
        at (inr f) = rest f

-- those without the first of the list are of the others
others : (p : Pending) (ps : List Pending) (is : List ImportId) → Distinct is → ((i : ImportId) → among is i ≡ true → is_listed (p ∷ ps) i ≡ true)
    → (i : ImportId) → among (without p.import is) i ≡ true → is_listed ps i ≡ true
others p ps is d l i h = by (either (same_leaf i p.import) (is_listed ps i) (l i (without-among p.import is i h)))
  where
    by : (same_leaf i p.import ≡ true) ⊎ (is_listed ps i ≡ true) → is_listed ps i ≡ true
    by (inl e) = absurd (true≢false (sym e ∙ without-other p.import is d i h))
    by (inr e) = e

fits : (ps : List Pending) (is : List ImportId) → Distinct is → ((i : ImportId) → among is i ≡ true → is_listed ps i ≡ true) → length is ≤ length ps
fits [] [] d l = omega arith
fits [] (i ∷ is) d l = let none : false ≡ true = l i (or_left (same_leaf i i) (among is i) (import-refl i)) in absurd (true≢false (sym none))
fits (p ∷ ps) is d l = let rest = fits ps (without p.import is) (without-distinct p.import is d) (others p ps is d l) in omega (arith, rest, without-length p.import is)

single : (k : ℕ) (ps : List Pending) (is : List ImportId) → Distinct is → ((i : ImportId) → among is i ≡ true → is_listed ps i ≡ true) → length ps ≤ length is → double_from k ps ≡ None
single k [] is d l h = refl
single k (p ∷ ps) is d l h = by (is_listed ps p.import) refl (single (k + 1) ps (without p.import is) (without-distinct p.import is d) (others p ps is d l) (omega (arith, h, without-length p.import is)))
  where
    all : is_listed ps p.import ≡ true → (i : ImportId) → (same_leaf i p.import ≡ true) ⊎ (is_listed ps i ≡ true) → is_listed ps i ≡ true
    all e i (inl f) = ap (is_listed ps) (import_value.same-law i p.import f) ∙ e
    all e i (inr f) = f

    by : (b : Bool) → is_listed ps p.import ≡ b → double_from (k + 1) ps ≡ None → cond b (Some k) (double_from (k + 1) ps) ≡ None
    by true e rest = let few = fits ps is d (λ i m. all e i (either (same_leaf i p.import) (is_listed ps i) (l i m))) in absurd (omega (arith, few, h))
    by false e rest = rest

pub no-double : (ps : List Pending) (count : ℕ) (last : Option ℕ) → length ps ≤ count → Walked ps count last → first_double ps ≡ None
no-double ps count last h w = single 0 ps w.imports w.distinct w.listed (omega (arith, h, w.len))

-- one import at two places
pub pair : (ps : List Pending) (i j : ℕ) (p q : Pending) → slice_get ps i ≡ Some p → slice_get ps j ≡ Some q → i ≢ j → same_leaf p.import q.import ≡ true → is_some (first_double ps) ≡ true
pair ps i j p q a b apart same = by (first_double ps) refl
  where
    by : (o : Option ℕ) → first_double ps ≡ o → is_some o ≡ true
    by None none = absurd (apart (singles 0 ps none i j p q a b (import_value.same-law p.import q.import same)))
    by (Some k) some = refl
