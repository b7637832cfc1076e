-- What adding a key, writing at it and taking it off again leave.
use Rattle.std.proofs.Common.{◌≡◌, ◌-◌, Bool, true, false, cond, not, List, [], ◌∷◌, ◌++◌, length, take, Option, None, Some, is_some, refl, sym, ap, ◌∙◌, true≢false, arith, length-append}
use Rattle.std.proofs.Math.Seq.{take-append_seam}
use Rattle.std.specs.Map.{lookup, set_value}
use Rattle.indexmap.specs.IndexMap.{insert_entry}
use Rattle.dm_scope.specs.Entries.{add_entry, is_new, without_new}

module _ {K V : Type 0} (eq : K → K → Bool) (k : K) (v : V) where
  -- a key that is not there goes last
  pub add_entry-new : (es : List (K × V)) → is_new eq es k ≡ true → add_entry eq es k v ≡ es ++ (k, v) ∷ []
  add_entry-new [] h = refl
  add_entry-new (e ∷ es) h = by (eq k e.0) h (add_entry-new es)
    where
      by : (b : Bool) → not (is_some (cond b (Some e.1) (lookup (eq k) es))) ≡ true → (is_new eq es k ≡ true → add_entry eq es k v ≡ es ++ (k, v) ∷ []) → cond b (e ∷ es) (e ∷ add_entry eq es k v) ≡ e ∷ (es ++ (k, v) ∷ [])
      by true h rest = absurd (true≢false (sym h))
      by false h rest = ap (λ l. e ∷ l) (rest h)

  -- a key that is there leaves the entries as they are
  pub add_entry-present : (es : List (K × V)) → is_new eq es k ≡ false → add_entry eq es k v ≡ es
  add_entry-present [] h = absurd (true≢false h)
  add_entry-present (e ∷ es) h = by (eq k e.0) h (add_entry-present es)
    where
      by : (b : Bool) → not (is_some (cond b (Some e.1) (lookup (eq k) es))) ≡ false → (is_new eq es k ≡ false → add_entry eq es k v ≡ es) → cond b (e ∷ es) (e ∷ add_entry eq es k v) ≡ e ∷ es
      by true h rest = refl
      by false h rest = ap (λ l. e ∷ l) (rest h)

  -- a write at the key that was added is an insert
  pub set_value-add_entry : ((x : K) → eq x x ≡ true) → (es : List (K × V)) (w : V) → set_value (eq k) (add_entry eq es k w) v ≡ insert_entry eq es k v
  set_value-add_entry same [] w = ap (λ b. cond b ((k, v) ∷ []) ((k, w) ∷ [])) (same k)
  set_value-add_entry same (e ∷ es) w = by (eq k e.0) refl (set_value-add_entry same es w)
    where
      by : (b : Bool) → eq k e.0 ≡ b → set_value (eq k) (add_entry eq es k w) v ≡ insert_entry eq es k v → set_value (eq k) (cond b (e ∷ es) (e ∷ add_entry eq es k w)) v ≡ cond b ((e.0, v) ∷ es) (e ∷ insert_entry eq es k v)
      by true is rest = ap (λ b. cond b ((e.0, v) ∷ es) (e ∷ set_value (eq k) es v)) is
      by false is rest = ap (λ b. cond b ((e.0, v) ∷ add_entry eq es k w) (e ∷ set_value (eq k) (add_entry eq es k w) v)) is ∙ ap (λ l. e ∷ l) rest

-- the last entry taken off
pub take-last : {X : Type 0} (es : List X) (x : X) → take (length (es ++ x ∷ []) - 1) (es ++ x ∷ []) ≡ es
take-last es x =
    let n : length (es ++ x ∷ []) - 1 ≡ length es = omega (arith, length-append es (x ∷ [])) in
    ap (λ i. take i (es ++ x ∷ [])) n ∙ take-append_seam es (x ∷ [])

-- a key that was added is taken off again
pub without_new-add_entry : {K V : Type 0} (eq : K → K → Bool) (k : K) (v : V) (es : List (K × V)) → without_new (is_new eq es k) (add_entry eq es k v) ≡ es
without_new-add_entry eq k v es = by (is_new eq es k) refl
  where
    by : (b : Bool) → is_new eq es k ≡ b → without_new b (add_entry eq es k v) ≡ es
    by true h = ap (λ l. take (length l - 1) l) (add_entry-new eq k v es h) ∙ take-last es (k, v)
    by false h = add_entry-present eq k v es h

-- a write at a key that is not there changes nothing
pub set_value-absent : {K V : Type 0} (test : K → Bool) (v : V) (es : List (K × V)) → lookup test es ≡ None → set_value test es v ≡ es
set_value-absent test v [] h = refl
set_value-absent {K} {V} test v (e ∷ es) h = by (test e.0) h (set_value-absent test v es)
  where
    by : (b : Bool) → cond b (Some e.1) (lookup test es) ≡ None → (lookup test es ≡ None → set_value test es v ≡ es) → cond b ((e.0, v) ∷ es) (e ∷ set_value test es v) ≡ e ∷ es
    by true h rest = cc
    by false h rest = ap (λ l. e ∷ l) (rest h)

-- what is not some is none
pub absent : {X : Type 0} (o : Option X) → is_some o ≡ false → o ≡ None
absent None e = refl
absent (Some x) e = cc
