-- Derive attributes found and filled.
use Rattle.std.proofs.Common.{◌≡◌, ◌<◌, ◌≤◌, ◌+◌, ℕ, suc, Bool, true, false, cond, List, [], ◌∷◌, length, map, position, nat_lt, slice_set, slice_index_or, None, Some, refl, sym, ap, ◌∙◌, arith, ltb-true, not}
use Rattle.std.specs.List.{find, position_or_len}
use Rattle.std.proofs.lemmas.Bool.{ltb-false}
use Rattle.std.specs.Option.{option_map}
use Rattle.std.specs.Map.{lookup, set_value}
use Rattle.either.specs.declared.Either.{Either}
use Rattle.smallvec.specs.SmallVec.{SmallVec}
use Rattle.dm_base.specs.declared.ids.AttrId.{AttrId}
use Rattle.dm_base.specs.declared.ids.MacroCallId.{MacroCallId}
use Rattle.dm_base.specs.declared.ids.BuiltinDeriveImplId.{BuiltinDeriveImplId}
use Rattle.dm_base.specs.declared.source.AstId.{AstId}
use Rattle.dm_scope.specs.Derives.{derive_of, derives_of, has_id, find_derive, with_slot, fill_first, fill_slot}
use Rattle.dm_base.specs.Sameness.{same_ast}
use Rattle.dm_scope.specs.declared.derives.DeriveMacroInvocation.{DeriveMacroInvocation}

-- the first place that passes, or the length
abbrev pub place : {X : Type 0} → (X → Bool) → List X → ℕ
place t [] = 0
place t (x ∷ xs) = cond (t x) 0 (suc (place t xs))

place-is : {X : Type 0} (t : X → Bool) (xs : List X) → position_or_len t xs ≡ place t xs
place-is t [] = refl
place-is t (x ∷ xs) = by (t x) (place-is t xs)
  where
    by : (b : Bool) → position_or_len t xs ≡ place t xs → cond (not b) (1 + position_or_len t xs) 0 ≡ cond b 0 (suc (place t xs))
    by true rest = refl
    by false rest = omega arith

pub position-some : {X : Type 0} (t : X → Bool) (xs : List X) (i : ℕ) → position t xs ≡ Some i → (i ≡ place t xs) × (place t xs < length xs)
position-some t xs i h = by (nat_lt (position_or_len t xs) (length xs)) refl h
  where
    by : (b : Bool) → nat_lt (position_or_len t xs) (length xs) ≡ b → cond b (Some (position_or_len t xs)) None ≡ Some i → (i ≡ place t xs) × (place t xs < length xs)
    by true e h =
        let same : position_or_len t xs ≡ i = cc in
        let less : position_or_len t xs < length xs = ltb-true _ _ e in
        let is : position_or_len t xs ≡ place t xs = place-is t xs in
        (sym same ∙ is, omega arith)
    by false e h = cc

pub position-none : {X : Type 0} (t : X → Bool) (xs : List X) → position t xs ≡ None → length xs ≤ place t xs
position-none t xs h = by (nat_lt (position_or_len t xs) (length xs)) refl h
  where
    by : (b : Bool) → nat_lt (position_or_len t xs) (length xs) ≡ b → cond b (Some (position_or_len t xs)) None ≡ None → length xs ≤ place t xs
    by true e h = cc
    by false e h =
        let more : length xs ≤ position_or_len t xs = ltb-false _ _ e in
        let is : position_or_len t xs ≡ place t xs = place-is t xs in
        omega arith

-- the first entry of an attribute, as contracts see it
pub find-derive_of : (id : AttrId) (ds : List DeriveMacroInvocation) → option_map derive_of (find (has_id id) ds) ≡ find_derive id (map derive_of ds)
find-derive_of id [] = refl
find-derive_of id (x ∷ xs) = by (has_id id x) (find-derive_of id xs)
  where
    by : (b : Bool) → option_map derive_of (find (has_id id) xs) ≡ find_derive id (map derive_of xs)
        → option_map derive_of (cond b (Some x) (find (has_id id) xs)) ≡ cond b (Some (derive_of x)) (find_derive id (map derive_of xs))
    by true rest = refl
    by false rest = rest

module _ (id : AttrId) (d : DeriveMacroInvocation) where
  -- the entry at that place is the one that is found
  pub find_derive-first : (ds : List DeriveMacroInvocation) → place (has_id id) ds < length ds → find_derive id (map derive_of ds) ≡ Some (derive_of (slice_index_or ds (place (has_id id) ds) d))
  find_derive-first [] h = absurd (omega arith)
  find_derive-first (x ∷ xs) h = by (has_id id x) h (find_derive-first xs)
    where
      by : (b : Bool) → cond b 0 (suc (place (has_id id) xs)) < length (x ∷ xs)
          → (place (has_id id) xs < length xs → find_derive id (map derive_of xs) ≡ Some (derive_of (slice_index_or xs (place (has_id id) xs) d)))
          → cond b (Some (derive_of x)) (find_derive id (map derive_of xs)) ≡ Some (derive_of (slice_index_or (x ∷ xs) (cond b 0 (suc (place (has_id id) xs))) d))
      by true h rest = refl
      by false h rest = rest (omega arith)

  module _ (i : ℕ) (call : Either MacroCallId BuiltinDeriveImplId) where
    -- and the one that is filled
    pub fill_first-first : (ds : List DeriveMacroInvocation) (e : DeriveMacroInvocation) → place (has_id id) ds < length ds
        → derive_of e ≡ with_slot i call (derive_of (slice_index_or ds (place (has_id id) ds) d))
        → map derive_of (slice_set ds (place (has_id id) ds) e) ≡ fill_first id i call (map derive_of ds)
    fill_first-first [] e h w = absurd (omega arith)
    fill_first-first (x ∷ xs) e h w = by (has_id id x) h w (λ k v. fill_first-first xs e k v)
      where
        by : (b : Bool) → cond b 0 (suc (place (has_id id) xs)) < length (x ∷ xs)
            → derive_of e ≡ with_slot i call (derive_of (slice_index_or (x ∷ xs) (cond b 0 (suc (place (has_id id) xs))) d))
            → (place (has_id id) xs < length xs → derive_of e ≡ with_slot i call (derive_of (slice_index_or xs (place (has_id id) xs) d))
            → map derive_of (slice_set xs (place (has_id id) xs) e) ≡ fill_first id i call (map derive_of xs))
            → map derive_of (slice_set (x ∷ xs) (cond b 0 (suc (place (has_id id) xs))) e)
            ≡ cond b (with_slot i call (derive_of x) ∷ map derive_of xs) (derive_of x ∷ fill_first id i call (map derive_of xs))
        by true h w rest = ap (λ y. y ∷ map derive_of xs) w
        by false h w rest = ap (λ l. derive_of x ∷ l) (rest (omega arith) w)

module _ (id : AttrId) where
  module _ (i : ℕ) (call : Either MacroCallId BuiltinDeriveImplId) where
    -- where there is none, nothing changes
    pub fill_first-none : (ds : List DeriveMacroInvocation) → length ds ≤ place (has_id id) ds → fill_first id i call (map derive_of ds) ≡ map derive_of ds
    fill_first-none [] h = refl
    fill_first-none (x ∷ xs) h = by (has_id id x) h (fill_first-none xs)
      where
        by : (b : Bool) → length (x ∷ xs) ≤ cond b 0 (suc (place (has_id id) xs))
            → (length xs ≤ place (has_id id) xs → fill_first id i call (map derive_of xs) ≡ map derive_of xs)
            → cond b (with_slot i call (derive_of x) ∷ map derive_of xs) (derive_of x ∷ fill_first id i call (map derive_of xs)) ≡ derive_of x ∷ map derive_of xs
        by true h rest = absurd (omega arith)
        by false h rest = ap (λ l. derive_of x ∷ l) (rest (omega arith))

-- the attributes of one item filled, among those of all
module _ (adt : AstId) (id : AttrId) (i : ℕ) (call : Either MacroCallId BuiltinDeriveImplId) where
  pub fill_slot-present : (es : List (AstId × SmallVec DeriveMacroInvocation)) (v w : SmallVec DeriveMacroInvocation) → lookup (same_ast adt) es ≡ Some v
      → map derive_of w.items ≡ fill_first id i call (map derive_of v.items) → derives_of (set_value (same_ast adt) es w) ≡ fill_slot adt id i call (derives_of es)
  fill_slot-present [] v w h e = refl
  fill_slot-present (y ∷ ys) v w h e = by (same_ast adt y.0) h (λ r. fill_slot-present ys v w r e)
    where
      by : (b : Bool) → cond b (Some y.1) (lookup (same_ast adt) ys) ≡ Some v → (lookup (same_ast adt) ys ≡ Some v → derives_of (set_value (same_ast adt) ys w) ≡ fill_slot adt id i call (derives_of ys))
          → derives_of (cond b ((y.0, w) ∷ ys) (y ∷ set_value (same_ast adt) ys w))
          ≡ cond b ((y.0, fill_first id i call (map derive_of y.1.items)) ∷ derives_of ys) ((y.0, map derive_of y.1.items) ∷ fill_slot adt id i call (derives_of ys))
      by true h rest = let same : y.1 ≡ v = cc in ap (λ l. (y.0, l) ∷ derives_of ys) (e ∙ ap (λ (u : SmallVec DeriveMacroInvocation). fill_first id i call (map derive_of u.items)) (sym same))
      by false h rest = ap (λ l. (y.0, map derive_of y.1.items) ∷ l) (rest h)

  pub fill_slot-absent : (es : List (AstId × SmallVec DeriveMacroInvocation)) → lookup (same_ast adt) es ≡ None → fill_slot adt id i call (derives_of es) ≡ derives_of es
  fill_slot-absent [] h = refl
  fill_slot-absent (y ∷ ys) h = by (same_ast adt y.0) h (fill_slot-absent ys)
    where
      by : (b : Bool) → cond b (Some y.1) (lookup (same_ast adt) ys) ≡ None → (lookup (same_ast adt) ys ≡ None → fill_slot adt id i call (derives_of ys) ≡ derives_of ys)
          → cond b ((y.0, fill_first id i call (map derive_of y.1.items)) ∷ derives_of ys) ((y.0, map derive_of y.1.items) ∷ fill_slot adt id i call (derives_of ys)) ≡ (y.0, map derive_of y.1.items) ∷ derives_of ys
      by true h rest = cc
      by false h rest = ap (λ l. (y.0, map derive_of y.1.items) ∷ l) (rest h)

-- an item's attributes, by what they show
pub lookup-derives_of : (adt : AstId) (es : List (AstId × SmallVec DeriveMacroInvocation)) → lookup (same_ast adt) (derives_of es) ≡ option_map (λ (v : SmallVec DeriveMacroInvocation). map derive_of v.items) (lookup (same_ast adt) es)
lookup-derives_of adt [] = refl
lookup-derives_of adt (e ∷ es) = by (same_ast adt e.0) (lookup-derives_of adt es)
  where
    by : (b : Bool) → lookup (same_ast adt) (derives_of es) ≡ option_map (λ (v : SmallVec DeriveMacroInvocation). map derive_of v.items) (lookup (same_ast adt) es)
        → cond b (Some (map derive_of e.1.items)) (lookup (same_ast adt) (derives_of es)) ≡ option_map (λ (v : SmallVec DeriveMacroInvocation). map derive_of v.items) (cond b (Some e.1) (lookup (same_ast adt) es))
    by true rest = refl
    by false rest = rest
