-- The import chains that the records of scopes make.
use Rattle.std.proofs.Common.{◌≡◌, ℕ, suc, ◌<◌, ◌++◌, Bool, true, false, List, [], ◌∷◌, length, Option, None, Some, IfSome, refl, sym, ap, subst, ◌∙◌, arith, ◌^◌, cond}
use Rattle.std.specs.Map.{lookup, keys_of}
use Rattle.std.specs.List.{flat_map, list_any}
use Rattle.std.specs.Option.{option_and_then, option_map, option_or, option_eq}
use Rattle.std.specs.Prelude.{slice_get, is_some, ◌||◌, zero}
use Rattle.std.specs.Set.{is_member}
use Rattle.std.proofs.lemmas.List.{length-map, map-append}
use Rattle.std.proofs.lemmas.List.Folds.{list_any-append}
use Rattle.std.proofs.lemmas.Map.Made.{is_some-lookup}
use Rattle.dm_base.specs.Definitions.{widened_macro}
use Rattle.dm_base.specs.Sameness.{same_import}
use Rattle.dm_base.specs.contracts.imports.ImportIdPartialEq.TheImpl as id_eq
use Rattle.dm_base.specs.contracts.imports.ImportOrExternCrateEq.TheImpl.Laws as import_eq
use Rattle.dm_base.specs.contracts.value_eq.ImportIdValueEq.TheImpl.Laws as id_value
use Rattle.dm_base.specs.contracts.value_eq.ImportOrExternCrateValueEq.TheImpl.Laws as import_value
use Rattle.dm_base.specs.declared.imports.ImportId.{ImportId}
use Rattle.dm_base.specs.declared.imports.ImportOrDef.{ImportOrDef}
use Rattle.dm_base.specs.declared.imports.ImportOrDef.TheVariants.{Import, Glob, ExternCrate, Def}
use Rattle.dm_base.specs.declared.imports.ImportOrExternCrate.TheVariants as wide
use Rattle.dm_base.specs.declared.item_ids.MacroId.{MacroId}
use Rattle.dm_base.specs.declared.item_ids.ModuleDefId.{ModuleDefId}
use Rattle.dm_base.specs.declared.item_ids.ModuleDefId.TheVariants as def
use Rattle.dm_base.specs.declared.per_ns.Item.{Item}
use Rattle.dm_base.specs.declared.per_ns.Namespace.{Namespace}
use Rattle.dm_scope.specs.Chains.{Pair, EndsIn, IsFound, named_import, def_of, at_home, leads, ends, record_of, public_item}
use Rattle.dm_scope.specs.ChainSteps.{WasPassed, found_within, found_from, macro_of}
use Rattle.dm_scope.specs.Records.{records_in}
use Rattle.dm_scope.specs.Tables.{Tables, all_records, record_count}
use Rattle.dm_scope.proofs.ChainLemmas.{some_is, found_within-ends, found_within-keys, found_within-round, chain_append, last_append}

import_is : (i j : ImportId) → same_import (wide.Import i) (wide.Import j) ≡ true → i ≡ j
import_is = id_value.same-law

-- an optional import that is equal to one is that one
pub same_import_id : (o : Option ImportId) (i : ImportId) → option_eq id_eq.ghosts.eq o (Some i) ≡ true → o ≡ Some i
same_import_id None i e = absurd (let f : ⊥ = cc in f)
same_import_id (Some j) i e = ap Some (id_value.same-law j i e)

-- what an option maps to comes of something
from_some : {X Y : Type 0} (f : X → Option Y) (o : Option X) (y : Y) → option_and_then f o ≡ Some y → (x : X) × (o ≡ Some x) × (f x ≡ Some y)
from_some f None y h = absurd (let e : ⊥ = cc in e)
from_some f (Some x) y h = (x, refl, h)

or_true : (b : Bool) → (b || true) ≡ true
or_true true = refl
or_true false = refl

-- a key of one of the lists is one of all
known_in : {S K V : Type 0} (test : K → Bool) (f : S → List (K × V)) (ss : List S) (n : ℕ) (s : S) (v : V)
    → slice_get ss n ≡ Some s → lookup test (f s) ≡ Some v → list_any test (keys_of (flat_map f ss)) ≡ true
known_in test f [] n s v at is = absurd (let e : ⊥ = cc in e)
known_in test f (x ∷ xs) n s v at is = ap (list_any test) (map-append (λ e. e.0) (f x) (flat_map f xs)) ∙ list_any-append test (keys_of (f x)) (keys_of (flat_map f xs)) ∙ by n at (λ m. known_in test f xs m s v)
  where
    by : (n : ℕ) → slice_get (x ∷ xs) n ≡ Some s → ((m : ℕ) → slice_get xs m ≡ Some s → lookup test (f s) ≡ Some v → list_any test (keys_of (flat_map f xs)) ≡ true)
        → (list_any test (keys_of (f x)) || list_any test (keys_of (flat_map f xs))) ≡ true
    by zero at rest =
        let here : list_any test (keys_of (f x)) ≡ true = sym (is_some-lookup test (f x)) ∙ ap (λ t. is_some (lookup test (f t))) (some_is x s at) ∙ ap is_some is in
        ap (λ b. b || list_any test (keys_of (flat_map f xs))) here
    by (suc n) at rest = ap (λ b. list_any test (keys_of (f x)) || b) (rest n at is) ∙ or_true (list_any test (keys_of (f x)))

module _ (ns : Namespace) (t : Tables) where
  -- a pair that another leads to is at home
  led_home : (x y : Pair) → leads ns t x ≡ Some y → at_home t y.1 ≡ Some y
  led_home x y h =
      let i = from_some (at_home t) (option_and_then named_import (record_of ns x)) y h in
      let s = from_some (λ s. Some (s, i.0)) (option_and_then (λ m. slice_get t.scopes m.0) (t.container i.0.use_)) y i.2 in
      subst (λ z. at_home t z.1 ≡ Some z) (some_is _ y s.2) (ap (option_map (λ s. (s, i.0))) s.1)

  -- no pair both leads on and ends
  apart : (x y : Pair) (d : ModuleDefId) → leads ns t x ≡ Some y → ends ns x ≡ Some d → ⊥
  apart x y d h e = by (record_of ns x) h e
    where
      by : (o : Option ImportOrDef) → option_and_then (at_home t) (option_and_then named_import o) ≡ Some y → option_and_then def_of o ≡ Some d → ⊥
      by None h e = cc
      by (Some (Import i)) h e = cc
      by (Some (Glob g)) h e = cc
      by (Some (ExternCrate k)) h e = cc
      by (Some (Def c)) h e = cc

  -- pairs that are led to are one where their imports are
  one : (x y z w : Pair) → leads ns t x ≡ Some y → leads ns t z ≡ Some w → same_import (wide.Import y.1) (wide.Import w.1) ≡ true → y ≡ w
  one x y z w h k same = some_is y w (sym (led_home x y h) ∙ ap (at_home t) (import_is y.1 w.1 same) ∙ led_home z w k)

  leads_on : (q p : Pair) (i : ImportId) → record_of ns q ≡ Some (Import i) → at_home t i ≡ Some p → leads ns t q ≡ Some p
  leads_on q p i is there = ap (λ o. option_and_then (at_home t) (option_and_then named_import o)) is ∙ there

  found_on : (q p : Pair) (i : ImportId) (n : ℕ) → record_of ns q ≡ Some (Import i) → at_home t i ≡ Some p → found_within (leads ns t) (ends ns) (suc n) q ≡ found_within (leads ns t) (ends ns) n p
  found_on q p i n is there =
      ap (λ o. option_or o (option_and_then (found_within (leads ns t) (ends ns) n) (leads ns t q))) (ap (option_and_then def_of) is)
      ∙ ap (option_and_then (found_within (leads ns t) (ends ns) n)) (leads_on q p i is there)

  -- a step of a walk, with one pair less to go
  pub found-step : (q p : Pair) (i : ImportId) (n m : ℕ) (o : Option ModuleDefId) → record_of ns q ≡ Some (Import i) → at_home t i ≡ Some p → n ≡ suc m
      → found_within (leads ns t) (ends ns) (suc n) q ≡ o → found_within (leads ns t) (ends ns) (suc m) p ≡ o
  found-step q p i n m o is there one e = ap (λ k. found_within (leads ns t) (ends ns) k p) (sym one) ∙ sym (found_on q p i n is there) ∙ e

  -- where an import that was passed comes again, nothing is found
  pub found-round : (q : Pair) (o : Option ImportId) (i : ImportId) (n : ℕ) (found : Option ModuleDefId) → record_of ns q ≡ Some (Import i) → o ≡ Some i → IfSome o (WasPassed ns t q)
      → found_within (leads ns t) (ends ns) (suc n) q ≡ found → None ≡ found
  found-round q o i n found is same passed e =
      let w = subst (λ p. IfSome p (WasPassed ns t q)) same passed in
      sym (found_on q w.0 i n is w.1 ∙ found_within-round (leads ns t) (ends ns) apart w.0 w.2 w.3 (ap (leads ns t) w.4 ∙ leads_on q w.0 i is w.1) n) ∙ e

  -- what was passed before a step was passed after it, and so is where it came
  pub passed-step : (q p : Pair) (i : ImportId) (b : Bool) (o : Option ImportId) → record_of ns q ≡ Some (Import i) → at_home t i ≡ Some p → IfSome o (WasPassed ns t q) → IfSome (cond b (Some i) o) (WasPassed ns t p)
  passed-step q p i true o is there passed = (p, there, [], tt, refl)
  passed-step q p i false None is there passed = tt
  passed-step q p i false (Some j) is there w =
      (w.0, w.1, w.2 ++ p ∷ [], chain_append (leads ns t) (ends ns) w.0 p w.2 [] w.3 (ap (leads ns t) w.4 ∙ leads_on q p i is there) tt, last_append (leads ns t) (ends ns) w.0 p w.2 [])

  -- the import of a pair that is led to and has a record is a key of some record
  known : (x y : Pair) (v : ImportOrDef) → leads ns t x ≡ Some y → record_of ns y ≡ Some v → is_member same_import (keys_of (all_records ns t)) (wide.Import y.1) ≡ true
  known x y v h is =
      let s = from_some (λ s. Some (s, y.1)) (option_and_then (λ m. slice_get t.scopes m.0) (t.container y.1.use_)) y (led_home x y h) in
      let m = from_some (λ m. slice_get t.scopes m.0) (t.container y.1.use_) s.0 s.1 in
      let same : s.0 ≡ y.0 = ap (λ p. p.0) (some_is _ y s.2) in
      known_in (same_import (wide.Import y.1)) (records_in ns) t.scopes m.0.0 y.0 v (m.2 ∙ ap Some same) is

  -- a walk through one pair more than there are records finds what some chain ends in
  found_from-whole : (p : Pair) (d : ModuleDefId) → length (all_records ns t) < 2 ^ 64 → EndsIn (leads ns t) (ends ns) p d → found_from ns t p ≡ Some d
  found_from-whole p d fits h =
      let count : length (keys_of (all_records ns t)) ≡ length (all_records ns t) = length-map (all_records ns t) (λ e. e.0) in
      let enough : length (keys_of (all_records ns t)) < suc (record_count ns t) = grind (arith, count) in
      found_within-keys (leads ns t) (ends ns) same_import (λ y. wide.Import y.1) import_eq.laws-law import_value.same-law apart one (keys_of (all_records ns t))
      (λ x y z h k. let v = from_some named_import (record_of ns y) _ (from_some (at_home t) (option_and_then named_import (record_of ns y)) z k).1 in known x y v.0 h v.1)
      (λ x y d h e. let v = from_some def_of (record_of ns y) d e in known x y v.0 h v.1)
      (suc (record_count ns t)) p d enough h

  -- as the clauses of a function say it, where what it gives is what the walk finds, read by `of`
  module _ {D : Type 0} (I : Type 0) (widened : D → ModuleDefId) (of : ModuleDefId → Option D) (there : (d : D) → of (widened d) ≡ Some d) (back : (e : ModuleDefId) (d : D) → of e ≡ Some d → widened d ≡ e) where
    read_right : (p : Pair) (e : ModuleDefId) → found_from ns t p ≡ Some e → (o : Option D) → of e ≡ o → IfSome (option_map (public_item {I = I}) o) (λ x. (x ≡ public_item x.def) × EndsIn (leads ns t) (ends ns) p (widened x.def))
    read_right p e is None to = tt
    read_right p e is (Some d) to = (refl, subst (EndsIn (leads ns t) (ends ns) p) (sym (back e d to)) (found_within-ends (leads ns t) (ends ns) (suc (record_count ns t)) p e is))

    found_right : (p : Pair) (o : Option ModuleDefId) → found_from ns t p ≡ o → IfSome (option_map (public_item {I = I}) (option_and_then of o)) (λ x. (x ≡ public_item x.def) × EndsIn (leads ns t) (ends ns) p (widened x.def))
    found_right p None is = tt
    found_right p (Some e) is = read_right p e is (of e) refl

    pub IsFound-found_from : (p : Pair) (found : Option (Item D I)) → found ≡ option_map public_item (option_and_then of (found_from ns t p)) → IsFound ns t p widened found
    IsFound-found_from p found is = record {
      right = subst (λ f. IfSome f (λ x. (x ≡ public_item x.def) × EndsIn (leads ns t) (ends ns) p (widened x.def))) (sym is) (found_right p (found_from ns t p) refl);
      whole = λ fits d h. is ∙ ap (λ o. option_map public_item (option_and_then of o)) (found_from-whole p (widened d) fits h) ∙ ap (option_map public_item) (there d);
    }

-- the macro that a definition is
pub macro_of-back : (e : ModuleDefId) (m : MacroId) → macro_of e ≡ Some m → widened_macro m ≡ e
macro_of-back (def.MacroId n) m is = ap def.MacroId (sym (some_is n m is))
macro_of-back e m is = absurd (let f : ⊥ = cc in f)

pub option_and_then-some : {X : Type 0} (o : Option X) → option_and_then (λ x. Some x) o ≡ o
option_and_then-some None = refl
option_and_then-some (Some x) = refl
