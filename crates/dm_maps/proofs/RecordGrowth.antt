-- How many records a world's scopes have after a push into one of them.
use Rattle.std.proofs.Common.{◌≡◌, ◌+◌, ◌-◌, ◌≤◌, ◌^◌, min, ℕ, zero, suc, Bool, true, false, cond, List, [], ◌∷◌, ◌++◌, Option, None, Some, slice_get, length, nat_eq, refl, sym, ap, ◌∙◌, arith, IsSome, true≢false, length-append}
use Rattle.std.specs.List.{flat_map}
use Rattle.std.specs.Option.{option_map, option_map_or, option_and_then}
use Rattle.std.proofs.lemmas.Bool.{eqb-true}
use Rattle.std.proofs.lemmas.List.{length-map}
use Rattle.std.proofs.lemmas.List.Folds.{flat_map-map}
use Rattle.indexmap.specs.IndexMap.{insert_entry}
use Rattle.dm_maps.proofs.Ids.{ImportOrDef, ImportOrExternCrate, ImportOrGlob, ModuleId, Name, Place, find_name}
use Rattle.dm_base.specs.Imports.{widened}
use Rattle.dm_base.specs.Tree.{same_module}
use Rattle.dm_base.specs.declared.per_ns.Item.{Item}
use Rattle.dm_base.specs.declared.per_ns.Namespace.{Namespace}
use Rattle.dm_base.specs.declared.per_ns.Namespace.TheVariants.{Types, Values, Macros}
use Rattle.dm_base.specs.declared.per_ns.PerNs.{PerNs}
use Rattle.dm_scope.specs.Shadowing.{Reading, import_of, writes}
use Rattle.dm_scope.specs.Bindings.{Bound, bound, bound_after, recorded, with_record}
use Rattle.dm_scope.specs.Flags.{Flags, Globs, has_flag}
use Rattle.dm_scope.specs.Push.{scope_after, types_reading, values_reading, macros_reading}
use Rattle.dm_scope.specs.Tables.{record_count, all_records}
use Rattle.dm_scope.specs.Records.{records_in}
use Rattle.dm_scope.specs.Scope.{Scope, no_scope}
use Rattle.dm_def_map.specs.Maps.{Module}
use Rattle.dm_maps.specs.PushRes.{with_push}
use Rattle.dm_maps.specs.ScopeTables.{scope_at_place, scope_tables}
use Rattle.dm_maps.specs.Trees.{IsWorld}
use Rattle.dm_maps.specs.World.{World, placed_module, scope_if_known, scope_of, with_scope}
use Rattle.dm_maps.proofs.ScopeWrites.{places-kept, scope_of-own, scope_of-other}

-- ---- A push takes no record away.

put-more : {K V : Type 0} (eq : K → K → Bool) (es : List (K × V)) (k : K) (v : V) → length es ≤ length (insert_entry eq es k v)
put-more eq [] k v = omega arith
put-more eq (e ∷ es) k v = by (eq k e.0) (put-more eq es k v)
  where
    by : (b : Bool) → length es ≤ length (insert_entry eq es k v) → length (e ∷ es) ≤ length (cond b ((e.0, v) ∷ es) (e ∷ insert_entry eq es k v))
    by true h = omega arith
    by false h = omega arith

recorded-more : {D I : Type 0} (r : Reading D I) (s : Bound D I) (fs : Flags) (m : ModuleId) (n : Name) (x : Option (Item D I)) (by : Option ImportOrExternCrate)
    → length s.records ≤ length (bound_after r s fs m n x by).records
recorded-more r s fs m n None by = omega arith
recorded-more r s fs m n (Some y) by = on (writes r (find_name n s.items) (has_flag fs m n) y (import_of r by))
  where
    put : (i : Option _) → length s.records ≤ length (with_record r s.records i (recorded r y))
    put None = omega arith
    put (Some i) = put-more r.same_import s.records i (recorded r y)

    on : (b : Bool) → length s.records ≤ length (cond b (bound r s n y (import_of r by)) s).records
    on true = put (import_of r by)
    on false = omega arith

pub pushed-more : (ns : Namespace) (s : Scope) (g : Globs) (m : ModuleId) (n : Name) (x : PerNs) (by : Option ImportOrExternCrate)
    → length (records_in ns s) ≤ length (records_in ns (scope_after s g m n x by))
pushed-more Types s g m n x by = recorded-more types_reading s.types g.types m n x.types by
pushed-more Values s g m n x by =
    let wide : ImportOrGlob × ImportOrDef → ImportOrExternCrate × ImportOrDef = λ e. (widened e.0, e.1) in
    let before = length-map s.values.records wide in
    let after = length-map (scope_after s g m n x by).values.records wide in
    let more = recorded-more values_reading s.values g.values m n x.values by in
    omega (arith, before, after, more)
pushed-more Macros s g m n x by = recorded-more macros_reading s.macros g.macros m n x.macros by

-- ---- One scope of a world is another.

pieces-alike : {X A : Type 0} (f g : X → List A) (xs : List X) → ((j : ℕ) (x : X) → slice_get xs j ≡ Some x → g x ≡ f x) → flat_map g xs ≡ flat_map f xs
pieces-alike f g [] same = refl
pieces-alike f g (x ∷ xs) same = ap (λ p. p ++ flat_map g xs) (same 0 x refl) ∙ ap (λ l. f x ++ l) (pieces-alike f g xs (λ j y e. same (suc j) y e))

-- pieces that are alike but for the one at i
one-piece : {X A : Type 0} (f g : X → List A) (xs : List X) (i : ℕ) (x : X) → slice_get xs i ≡ Some x
    → ((j : ℕ) (y : X) → slice_get xs j ≡ Some y → (j ≡ i → ⊥) → g y ≡ f y)
    → length (flat_map g xs) + length (f x) ≡ length (flat_map f xs) + length (g x)
one-piece f g [] i x e same = cc
one-piece f g (y ∷ ys) zero x e same =
    let is : y ≡ x = cc in
    let tails = ap length (pieces-alike f g ys (λ j z h. same (suc j) z h (λ n. cc))) in
    let old = length-append (f y) (flat_map f ys) in
    let new = length-append (g y) (flat_map g ys) in
    let one = ap (λ z. length (f z)) is in
    let other = ap (λ z. length (g z)) is in
    omega (arith, tails, old, new, one, other)
one-piece f g (y ∷ ys) (suc i) x e same =
    let rest = one-piece f g ys i x e (λ j z h n. same (suc j) z h (λ m. n (omega (arith, m)))) in
    let head = ap length (same 0 y refl (λ n. cc)) in
    let old = length-append (f y) (flat_map f ys) in
    let new = length-append (g y) (flat_map g ys) in
    omega (arith, rest, head, old, new)

other-module : (m k : ModuleId) → (k.0 ≡ m.0 → ⊥) → same_module m k ≡ false
other-module m k n = by (nat_eq m.0 k.0) refl
  where
    by : (b : Bool) → nat_eq m.0 k.0 ≡ b → b ≡ false
    by true e = absurd (n (sym (eqb-true m.0 k.0 e)))
    by false e = refl

-- what a place has as its scope, if it is a place
abbrev scope_by : World → Option Place → Scope
scope_by w o = option_map_or (λ (d : Module). d.scope) (option_and_then (placed_module w) o) no_scope

module _ (ns : Namespace) (w : World) (is : IsWorld w) (m : ModuleId) (s : Scope) (there : IsSome (scope_if_known w m)) where
  abbrev v : World
  v = with_scope w m s

  kept : v.places ≡ w.places
  kept = places-kept s w (slice_get w.places m.0)

  abbrev old_at : Place → List (ImportOrExternCrate × ImportOrDef)
  old_at p = records_in ns (scope_at_place w p)

  abbrev new_at : Place → List (ImportOrExternCrate × ImportOrDef)
  new_at p = records_in ns (scope_at_place v p)

  old_all : all_records ns (scope_tables w) ≡ flat_map old_at w.places
  unfolding scope_tables
  old_all = flat_map-map (records_in ns) (scope_at_place w) w.places

  new_all : all_records ns (scope_tables v) ≡ flat_map new_at w.places
  unfolding scope_tables
  new_all = flat_map-map (records_in ns) (scope_at_place v) v.places ∙ ap (flat_map new_at) kept

  old_is : (k : ModuleId) (p : Place) → slice_get w.places k.0 ≡ Some p → scope_of w k ≡ scope_at_place w p
  old_is k p e = ap (scope_by w) e

  new_is : (k : ModuleId) (p : Place) → slice_get w.places k.0 ≡ Some p → scope_of v k ≡ scope_at_place v p
  new_is k p e = ap (λ ps. scope_by v (slice_get ps k.0)) kept ∙ ap (scope_by v) e

  -- The records of all scopes, with those that the module's scope had, are as many as those of before, with those that
  -- it has.
  pub records-scoped : length (all_records ns (scope_tables (with_scope w m s))) + length (records_in ns (scope_of w m)) ≡ length (all_records ns (scope_tables w)) + length (records_in ns s)
  records-scoped = by (slice_get w.places m.0) refl there
    where
      at : (p : Place) → slice_get w.places m.0 ≡ Some p → length (all_records ns (scope_tables v)) + length (records_in ns (scope_of w m)) ≡ length (all_records ns (scope_tables w)) + length (records_in ns s)
      at p e =
          let pieces = one-piece old_at new_at w.places m.0 p e (λ j y h n.
          let k : ModuleId = record { 0 = j } in
          ap (records_in ns) (sym (new_is k y h) ∙ scope_of-other s w is m k (other-module m k n) ∙ old_is k y h)) in
          let before = ap (λ x. length (records_in ns x)) (old_is m p e) in
          let after = ap (λ x. length (records_in ns x)) (sym (new_is m p e) ∙ scope_of-own s w m there) in
          let old = ap length old_all in
          let new = ap length new_all in
          omega (arith, pieces, before, after, old, new)

      by : (o : Option Place) → slice_get w.places m.0 ≡ o → IsSome (option_map (λ (d : Module). d.scope) (option_and_then (placed_module w) o))
          → length (all_records ns (scope_tables v)) + length (records_in ns (scope_of w m)) ≡ length (all_records ns (scope_tables w)) + length (records_in ns s)
      by None e h = absurd (true≢false (sym h))
      by (Some p) e h = at p e

-- ---- The count.

-- a count that stops at the greatest `usize` goes on with what is new
count-more : (old new before after : ℕ) → new + before ≡ old + after → before ≤ after → min (min old (2 ^ 64 - 1) + (after - before)) (2 ^ 64 - 1) ≡ min new (2 ^ 64 - 1)
count-more old new before after all more = grind (arith)

-- the count of a world v that is another, w, after a push
module _ (w : World) (is : IsWorld w) (m : ModuleId) (there : IsSome (scope_if_known w m)) (g : Globs) (n : Name) (x : PerNs) (by : Option ImportOrExternCrate) (v : World) (same : v ≡ with_push w g m n x by) where
  pub counted-pushed : (ns : Namespace) (old before after new : ℕ) → old ≡ record_count ns (scope_tables w) → before ≡ length (records_in ns (scope_of w m)) → after ≡ length (records_in ns (scope_of v m))
      → new ≡ min (old + (after - before)) (2 ^ 64 - 1) → new ≡ record_count ns (scope_tables v)
  counted-pushed ns old before after new o b a is_new =
      let s = scope_after (scope_of w m) g m n x by in
      let own : scope_of v m ≡ s = ap (λ u. scope_of u m) same ∙ scope_of-own s w m there in
      let last : after ≡ length (records_in ns s) = a ∙ ap (λ u. length (records_in ns u)) own in
      is_new
      ∙ (λ i. min (o i + (last i - b i)) (2 ^ 64 - 1))
      ∙ count-more (length (all_records ns (scope_tables w))) (length (all_records ns (scope_tables (with_scope w m s)))) (length (records_in ns (scope_of w m))) (length (records_in ns s))
      (records-scoped ns w is m s there) (pushed-more ns (scope_of w m) g m n x by)
      ∙ ap (λ u. record_count ns (scope_tables u)) (sym same)
