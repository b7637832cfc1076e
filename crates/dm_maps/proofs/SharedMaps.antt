-- New data of a crate, given to its maps one by one, reaches each.
use Rattle.std.proofs.Common.{◌≡◌, ◌<◌, ◌+◌, ◌∙◌, ℕ, zero, suc, Bool, true, false, cond, nat_eq, nat_lt, List, [], ◌∷◌, Option, None, Some, inl, inr, get_or, map, set, slice_get, refl, sym, ap, subst, arith, true≢false}
use Rattle.std.specs.Option.{option_map, option_map_or}
use Rattle.std.proofs.lemmas.Bool.{eqb-true, eq-eqb, ltb-true, ltb-false}
use Rattle.std.proofs.lemmas.Option.{slice_get-map, get_or_from_slice_get}
use Rattle.dm_maps.proofs.Ids.{BlockId, Crate, MapId}
use Rattle.dm_def_map.specs.CrateData.{CrateData}
use Rattle.dm_def_map.specs.Maps.{Map}
use Rattle.dm_maps.specs.BlockLists.{entry_with, crates_of, HasBlock, HoldsAll, AreNumbered}
use Rattle.dm_maps.specs.BuildCrateData.{map_with_shared}
use Rattle.dm_maps.proofs.EntryChanges.{entry-set}
use Rattle.dm_maps.proofs.EntryLemmas.{at-set, get-set_same}
use Rattle.dm_maps.proofs.MapsKept.{given-keeps, all-given-keep}
use Rattle.dm_maps.proofs.ModuleGrowth.{map-set_own}

module _ {X : Type 0} (f : X → X) (again : (x : X) → f (f x) ≡ f x) where
  -- f leaves what stands at a place
  abbrev pub Stays : List X → ℕ → Type 0
  Stays xs j = (x : X) → slice_get xs j ≡ Some x → f x ≡ x

  pub all-stay : (xs : List X) → ((j : ℕ) → Stays xs j) → map f xs ≡ xs
  all-stay [] h = refl
  all-stay (x ∷ xs) h = (λ i. h zero x refl i ∷ all-stay xs (λ j. h (suc j)) i)

  -- f of one more
  pub map-entry : (xs : List X) (k : ℕ) → map f (entry_with xs k f) ≡ map f xs
  map-entry xs k = by (slice_get xs k) refl
    where
      by : (o : Option X) → slice_get xs k ≡ o → map f (option_map_or (λ x. set xs k (f x)) o xs) ≡ map f xs
      by None e = refl
      by (Some x) e = map-set_own f xs k x (f x) e (again x)

  -- what was written, and what was so before, is left by f
  pub entry-there : (xs : List X) (k : ℕ) → Stays (entry_with xs k f) k
  entry-there xs k y is = by (slice_get xs k) refl is
    where
      by : (o : Option X) → slice_get xs k ≡ o → slice_get (option_map_or (λ x. set xs k (f x)) o xs) k ≡ Some y → f y ≡ y
      by None e g = cc
      by (Some x) e g =
          let written : Some (f x) ≡ Some y = sym (get-set_same xs k x (f x) e) ∙ g in
          let same : f x ≡ y = cc in
          ap f (sym same) ∙ again x ∙ same

  pub entry-other : (xs : List X) (k j : ℕ) → Stays xs j → Stays (entry_with xs k f) j
  entry-other xs k j h y is = by (slice_get xs k) refl is
    where
      by : (o : Option X) → slice_get xs k ≡ o → slice_get (option_map_or (λ x. set xs k (f x)) o xs) j ≡ Some y → f y ≡ y
      by None e g = h y g
      by (Some x) e g = elim (at-set xs k j x (f x) e) [
        | inl same ↦ h y (sym same ∙ g)
        | inr own ↦
            let written : Some (f x) ≡ Some y = sym own.2 ∙ g in
            let same : f x ≡ y = cc in
            ap f (sym same) ∙ again x ∙ same
      ]

module _ (k : Crate) (d : CrateData) where
  abbrev given : Map → Map
  given = map_with_shared k d

  abbrev one : Bool → Map → Map
  one b m = cond b (record m { shared = d }) m

  -- of data given twice the last counts
  pub given-again : (e : CrateData) (m : Map) → map_with_shared k e (given m) ≡ map_with_shared k e m
  given-again e m = ap (λ (i : MapId). cond (nat_eq i.krate.0 k.0) (record (given m) { shared = e }) (given m)) (given-keeps (λ (x : Map). x.id) (λ x c. refl) k d m) ∙ by (nat_eq m.id.krate.0 k.0)
    where
      by : (b : Bool) → cond b (record (one b m) { shared = e }) (one b m) ≡ cond b (record m { shared = e }) m
      by true = refl
      by false = refl

  pub given-twice : (m : Map) → given (given m) ≡ given m
  given-twice = given-again d

  -- another crate's map is left
  given-none : (m : Map) → nat_eq m.id.krate.0 k.0 ≡ false → given m ≡ m
  given-none m e = ap (λ b. one b m) e

  crates-given : (ms : List Map) → crates_of (map given ms) ≡ crates_of ms
  crates-given = all-given-keep (λ m. m.id.krate) (λ m e. refl) k d

  -- the maps ms became ns, of which each of the crate's blocks has the data
  pub all-given : (ms ns : List Map) (own : List BlockId) → HoldsAll k ms own → map given ns ≡ map given ms
      → ((i : ℕ) (b : BlockId) → slice_get own i ≡ Some b → Stays given given-twice ns b.0) → ns ≡ map given ms
  all-given ms ns own holds same done = sym (all-stay given given-twice ns stays) ∙ same
    where
      crates : crates_of ns ≡ crates_of ms
      crates = sym (crates-given ns) ∙ ap crates_of same ∙ crates-given ms

      stays : (j : ℕ) → Stays given given-twice ns j
      stays j x is = by (nat_eq x.id.krate.0 k.0) refl
        where
          by : (b : Bool) → nat_eq x.id.krate.0 k.0 ≡ b → given x ≡ x
          by false e = given-none x e
          by true e =
              let number : x.id.krate.0 ≡ k.0 = eqb-true x.id.krate.0 k.0 e in
              let there : slice_get (crates_of ms) j ≡ Some k =
              ap (λ l. slice_get l j) (sym crates) ∙ slice_get-map (λ (m : Map). m.id.krate) ns j ∙ ap (option_map (λ (m : Map). m.id.krate)) is ∙ (λ i. Some (record { 0 = number i })) in
              let listed : HasBlock own j = holds j there in
              done listed.0 (record { 0 = j }) listed.1 x is

  -- the map of the crate's number is the crate's only one
  pub own-given : (ms : List Map) → AreNumbered ms → entry_with ms k.0 given ≡ map given ms
  own-given ms numbered = sym (all-stay given given-twice (entry_with ms k.0 given) stays) ∙ map-entry given given-twice ms k.0
    where
      before : (j : ℕ) → (j ≡ k.0 → ⊥) → Stays given given-twice ms j
      before j other x is = by (nat_eq x.id.krate.0 k.0) refl
        where
          by : (b : Bool) → nat_eq x.id.krate.0 k.0 ≡ b → given x ≡ x
          by false e = given-none x e
          by true e = absurd (other (sym (numbered j x is) ∙ eqb-true x.id.krate.0 k.0 e))

      stays : (j : ℕ) → Stays given given-twice (entry_with ms k.0 given) j
      stays j = by (nat_eq j k.0) refl
        where
          by : (b : Bool) → nat_eq j k.0 ≡ b → Stays given given-twice (entry_with ms k.0 given) j
          by true e = subst (Stays given given-twice (entry_with ms k.0 given)) (sym (eqb-true j k.0 e)) (entry-there given given-twice ms k.0)
          by false e = entry-other given given-twice ms k.0 j (before j (λ same. true≢false (sym (eq-eqb j k.0 same) ∙ e)))

  -- the same, where it was written
  pub own-set : (ms : List Map) (x y : Map) → AreNumbered ms → slice_get ms k.0 ≡ Some x → y ≡ record x { shared = d } → set ms k.0 y ≡ map given ms
  own-set ms x y numbered there new =
      let same : y ≡ given x = new ∙ sym (ap (λ b. one b x) (eq-eqb x.id.krate.0 k.0 (numbered k.0 x there))) in
      entry-set ms k.0 given x y there same ∙ own-given ms numbered

  pub own-none : (ms : List Map) → AreNumbered ms → slice_get ms k.0 ≡ None → ms ≡ map given ms
  own-none ms numbered none = sym (ap (λ o. option_map_or (λ x. set ms k.0 (given x)) o ms) none) ∙ own-given ms numbered

  -- the maps of one more of the crate's blocks have the data
  pub given-next : (ms : List Map) (own : List BlockId) (n : ℕ) (z : BlockId)
      → ((i : ℕ) (b : BlockId) → i < n → slice_get own i ≡ Some b → Stays given given-twice ms b.0)
      → (i : ℕ) (b : BlockId) → i < n + 1 → slice_get own i ≡ Some b → Stays given given-twice (entry_with ms (get_or own n z).0 given) b.0
  given-next ms own n z before i b less e = by (nat_lt i n) refl
    where
      new : List Map
      new = entry_with ms (get_or own n z).0 given

      by : (t : Bool) → nat_lt i n ≡ t → Stays given given-twice new b.0
      by true t = entry-other given given-twice ms (get_or own n z).0 b.0 (before i b (ltb-true i n t) e)
      by false t =
          let last : n ≡ i = let past = ltb-false i n t in omega arith in
          let same : get_or own n z ≡ b = ap (λ j. get_or own j z) last ∙ get_or_from_slice_get own i b z e in
          subst (λ (c : BlockId). Stays given given-twice new c.0) same (entry-there given given-twice ms (get_or own n z).0)
