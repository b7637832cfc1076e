-- What was known stays known, and scopes stay, where something without a binding is added.
use Rattle.std.proofs.Common.{◌≡◌, ◌<◌, ◌≤◌, ◌∙◌, ℕ, zero, suc, Bool, true, false, List, [], ◌∷◌, ◌++◌, Option, None, Some, length, map, set, slice_get, nat_eq, nat_lt, refl, sym, ap, subst, arith, inl, inr, IsTrue, length-append, true≢false}
use Rattle.std.proofs.Math.ListN.{length-set}
use Rattle.std.proofs.lemmas.Bool.{eqb-true, ltb-true, lt-ltb}
use Rattle.std.proofs.lemmas.List.{map_push}
use Rattle.std.proofs.lemmas.Option.{slice_get_past}
use Rattle.std.specs.Option.{option_and_then, option_map_or}
use Rattle.dm_maps.proofs.Ids.{EnumId, ItemKind, MacroLoc, MapId, ModuleId, Name, Place}
use Rattle.dm_base.specs.Tree.{same_module}
use Rattle.dm_scope.specs.Scope.{Scope, no_scope}
use Rattle.dm_scope.specs.Shows.{Shows}
use Rattle.dm_maps.specs.declared.check.held.HeldId.{HeldId}
use Rattle.dm_maps.specs.declared.check.held.HeldId.TheVariants as held
use Rattle.dm_maps.specs.Kinds.{same_kind, is_of_kind, macro_number}
use Rattle.dm_def_map.specs.Maps.{Map, Module, Modules, nth_module, put_child, with_child, with_new_child, map_with_child}
use Rattle.dm_maps.specs.Added.{IsGrown, IsAddedModule}
use Rattle.dm_maps.specs.Build.{next_module}
use Rattle.dm_maps.specs.Known.{knows}
use Rattle.dm_maps.specs.Maps.{Maps, map_at, maps_with, maps_with_child}
use Rattle.dm_maps.specs.ScopeTables.{scope_at_place}
use Rattle.dm_maps.specs.Trees.{no_map}
use Rattle.dm_maps.specs.World.{World, maps_of, place_of, placed_module, scope_of}
use Rattle.dm_maps.proofs.AllLemmas.{all-weaker}
use Rattle.dm_maps.proofs.EntryLemmas.{get-append, get-last, at-set}
use Rattle.dm_maps.proofs.GrowthLemmas.{get-within}
use Rattle.dm_maps.proofs.MapWrites.{put-cases, put-other, with-cases}
use Rattle.dm_maps.proofs.ScopeWrites.{values-set}

-- ---- What is known stays known.

-- a list that has what another has, at the same places
abbrev pub Longer : {X : Type 0} → List X → List X → Type 0
Longer {X} xs ys = (i : ℕ) (x : X) → slice_get xs i ≡ Some x → slice_get ys i ≡ Some x

pub longer-same : {X : Type 0} (xs : List X) → Longer xs xs
longer-same xs i x h = h

pub longer-push : {X : Type 0} (xs : List X) (x : X) → Longer xs (xs ++ x ∷ [])
longer-push xs x i y h = get-append xs (x ∷ []) i y h

-- what is true of an element of the one is true of that of the other
stands-on : {X : Type 0} (f : X → Bool) (xs ys : List X) (i : ℕ) → Longer xs ys → IsTrue (option_map_or f (slice_get xs i) false) → IsTrue (option_map_or f (slice_get ys i) false)
stands-on {X} f xs ys i longer h = by (slice_get xs i) refl h
  where
    by : (o : Option X) → slice_get xs i ≡ o → IsTrue (option_map_or f o false) → IsTrue (option_map_or f (slice_get ys i) false)
    by None e g = absurd (true≢false (sym g))
    by (Some x) e g = ap (λ o. option_map_or f o false) (longer i x e) ∙ g

among-more : (n k i : ℕ) → n ≤ k → IsTrue (nat_lt i n) → IsTrue (nat_lt i k)
among-more n k i le h = let l : i < n = ltb-true i n h in lt-ltb i k (omega arith)

-- the lists of v, by which ids are known, have what those of w have
pub record Widens (w v : World) : Type 0 where
  pub places : length w.places ≤ length v.places
  pub crates : length w.crate_maps ≤ length v.crate_maps
  pub uses : length w.uses ≤ length v.uses
  pub items : Longer w.items v.items
  pub variants : length w.variants ≤ length v.variants
  pub macros : Longer w.macros v.macros

-- where uses, items, variants and macros stay
pub widens : (w v : World) → length w.places ≤ length v.places → length w.crate_maps ≤ length v.crate_maps → v.uses ≡ w.uses → v.items ≡ w.items → v.variants ≡ w.variants → v.macros ≡ w.macros → Widens w v
widens w v places crates uses items variants macros = record {
  places = places;
  crates = crates;
  uses = let e = ap (λ (l : List ModuleId). length l) uses in omega arith;
  items = subst (Longer w.items) (sym items) (longer-same w.items);
  variants = let e = ap (λ (l : List EnumId). length l) variants in omega arith;
  macros = subst (Longer w.macros) (sym macros) (longer-same w.macros);
}

known-on : (w v : World) → Widens w v → (h : HeldId) → IsTrue (knows w h) → IsTrue (knows v h)
known-on w v more (held.Module m) h = among-more (length w.places) (length v.places) m.0 more.places h
known-on w v more (held.Crate k) h = among-more (length w.crate_maps) (length v.crate_maps) k.0 more.crates h
known-on w v more (held.Use u) h = among-more (length w.uses) (length v.uses) u.0 more.uses h
known-on w v more (held.Item k n) h = stands-on (λ (i : ItemKind × ModuleId). same_kind k i.0) w.items v.items n more.items h
known-on w v more (held.Variant x) h = among-more (length w.variants) (length v.variants) x.0 more.variants h
known-on w v more (held.Macro m) h = stands-on (λ (e : ModuleId × MacroLoc). is_of_kind m e.1) w.macros v.macros (macro_number m) more.macros h

pub grows : (w v : World) → Widens w v → ((k : ModuleId) → scope_of v k ≡ scope_of w k) → ((k : ModuleId) → IsTrue (knows w (held.Module k)) → place_of v k ≡ place_of w k) → IsGrown w v
grows w v more scopes places = record {
  known = known-on w v more;
  all = λ hs h. all-weaker (λ x. IsTrue (knows w x)) (λ x. IsTrue (knows v x)) (known-on w v more) hs h;
  scopes = scopes;
  shown = λ g k ps h. subst (λ s. Shows s g k ps) (sym (scopes k)) h;
  places = places;
}

pub at-end : {X : Type 0} (xs : List X) → slice_get xs (length xs) ≡ None
at-end xs = slice_get_past xs (length xs) (omega arith)

pub end-among : {X : Type 0} (xs : List X) (x : X) → IsTrue (nat_lt (length xs) (length (xs ++ x ∷ [])))
end-among xs x = lt-ltb (length xs) (length (xs ++ x ∷ [])) (omega (arith, length-append xs (x ∷ [])))

pub more-push : {X : Type 0} (xs : List X) (x : X) → length xs ≤ length (xs ++ x ∷ [])
more-push xs x = omega (arith, length-append xs (x ∷ []))

pub end-past : (n : ℕ) → nat_lt n n ≡ false
end-past n = by (nat_lt n n) refl
  where
    by : (b : Bool) → nat_lt n n ≡ b → b ≡ false
    by true e = let l : n < n = ltb-true n n e in absurd (omega arith)
    by false e = refl

-- ---- Scopes stay where what is added binds nothing.

-- what a list says by number, where it says of what is pushed that it binds nothing
pub pushed-none : {X : Type 0} (f : X → Scope) (xs : List X) (x : X) (j : ℕ) → f x ≡ no_scope → option_map_or f (slice_get (xs ++ x ∷ []) j) no_scope ≡ option_map_or f (slice_get xs j) no_scope
pushed-none f [] x zero e = e
pushed-none f [] x (suc j) e = refl
pushed-none f (y ∷ ys) x zero e = refl
pushed-none f (y ∷ ys) x (suc j) e = pushed-none f ys x j e

-- and where it says of what is written what it said
set-kept : {X : Type 0} (f : X → Scope) (xs : List X) (i j : ℕ) (x y : X) → slice_get xs i ≡ Some x → f y ≡ f x → option_map_or f (slice_get (set xs i y) j) no_scope ≡ option_map_or f (slice_get xs j) no_scope
set-kept f xs i j x y there same = elim (at-set xs i j x y there) [
  | inl e ↦ ap (λ o. option_map_or f o no_scope) e
  | inr e ↦ ap (λ o. option_map_or f o no_scope) e.2 ∙ same ∙ sym (ap (λ o. option_map_or f o no_scope) e.1)
]

pub through : {X Y : Type 0} (g : X → Option Y) (f : Y → Scope) (o : Option X) → option_map_or f (option_and_then g o) no_scope ≡ option_map_or (λ x. option_map_or f (g x) no_scope) o no_scope
through g f None = refl
through g f (Some x) = refl

alike : {X : Type 0} (f g : X → Scope) → ((x : X) → f x ≡ g x) → (o : Option X) → option_map_or f o no_scope ≡ option_map_or g o no_scope
alike f g same None = refl
alike f g same (Some x) = same x

abbrev pub scope_in : Modules → ℕ → Scope
scope_in es j = option_map_or (λ (d : Module). d.scope) (nth_module es j) no_scope

-- a module more, without a binding
scope_in-child : (es : Modules) (i : ℕ) (n : Name) (m : ModuleId) (d : Module) (j : ℕ) → d.scope ≡ no_scope → scope_in (with_new_child es i n m d) j ≡ scope_in es j
scope_in-child es i n m d j none = by (nth_module more i) refl
  where
    more : Modules
    more = es ++ (m, d) ∷ []

    longer : scope_in more j ≡ scope_in es j
    longer =
        ap (λ l. option_map_or (λ (x : Module). x.scope) (slice_get l j) no_scope) (map_push (λ (e : ModuleId × Module). e.1) es (m, d))
        ∙ pushed-none (λ (x : Module). x.scope) (map (λ e. e.1) es) d j none

    by : (o : Option Module) → nth_module more i ≡ o → scope_in (put_child more i o n m) j ≡ scope_in es j
    by None e = longer
    by (Some x) e =
        ap (λ l. option_map_or (λ (y : Module). y.scope) (slice_get l j) no_scope) (values-set more i (with_child x n m))
        ∙ set-kept (λ (y : Module). y.scope) (map (λ e. e.1) more) i j x (with_child x n m) e refl
        ∙ longer

abbrev pub scope_by : Option Map → ℕ → Scope
scope_by o j = option_map_or (λ (d : Module). d.scope) (option_and_then (λ (x : Map). nth_module x.modules j) o) no_scope

pub scopes-child : (w : World) (at : Place) (n : Name) (m : ModuleId) (d : Module) (p : Place) → d.scope ≡ no_scope → scope_by (map_at (maps_with_child (maps_of w) at.map at.index n m d) p.map) p.index ≡ scope_at_place w p
scopes-child w at n m d p none =
    let f : Map → Map = λ x. map_with_child x at.index n m d in
    with-cases (maps_of w) at.map f (λ ms. scope_by (map_at ms p.map) p.index ≡ scope_at_place w p) refl
    (λ x e. elim (put-other (maps_of w) at.map p.map x (f x) e) [
      | inl h ↦ ap (λ o. scope_by o p.index) h
      | inr h ↦ ap (λ o. scope_by o p.index) h.1 ∙ scope_in-child x.modules at.index n m d p.index none ∙ sym (ap (λ o. scope_by o p.index) h.0)
    ])

-- where each place has the scope that it had, a module has the one of its place
scopes-by : (w v : World) → ((q : Place) → scope_at_place v q ≡ scope_at_place w q) → (k : ModuleId) → scope_of v k ≡ option_map_or (scope_at_place w) (place_of v k) no_scope
scopes-by w v same k = through (placed_module v) (λ (d : Module). d.scope) (place_of v k) ∙ alike (scope_at_place v) (scope_at_place w) same (place_of v k)

module _ (w v : World) (same : (q : Place) → scope_at_place v q ≡ scope_at_place w q) where
  pub scopes-kept : v.places ≡ w.places → (k : ModuleId) → scope_of v k ≡ scope_of w k
  scopes-kept places k =
      scopes-by w v same k
      ∙ ap (λ l. option_map_or (scope_at_place w) (slice_get l k.0) no_scope) places
      ∙ sym (through (placed_module w) (λ (d : Module). d.scope) (place_of w k))

-- also with a place more, where nothing is
module _ (w v : World) (p : Place) (places : v.places ≡ w.places ++ p ∷ []) (same : (q : Place) → scope_at_place v q ≡ scope_at_place w q) (none : scope_at_place w p ≡ no_scope) where
  scopes-placed : (k : ModuleId) → scope_of v k ≡ scope_of w k
  scopes-placed k =
      scopes-by w v same k
      ∙ ap (λ l. option_map_or (scope_at_place w) (slice_get l k.0) no_scope) places
      ∙ pushed-none (scope_at_place w) w.places p k.0 none
      ∙ sym (through (placed_module w) (λ (d : Module). d.scope) (place_of w k))

  -- so the module at that place is one that was added
  pub added : Widens w v → IsAddedModule w v p.map p.parent (next_module w)
  added more =
      let m = next_module w in
      let empty : scope_of v m ≡ no_scope = scopes-placed m ∙ ap (λ o. option_map_or (λ (d : Module). d.scope) (option_and_then (placed_module w) o) no_scope) (at-end w.places) in
      let last : place_of v m ≡ Some p = ap (λ l. slice_get l (length w.places)) places ∙ get-last w.places p in record {
        grown = grows w v more scopes-placed kept;
        known = ap (λ (l : List Place). nat_lt (length w.places) (length l)) places ∙ end-among w.places p;
        fresh = fresh;
        map = ap (λ o. option_map_or (λ (x : Place). x.map) o no_map) last;
        parent = ap (option_and_then (λ (x : Place). x.parent)) last;
        scope = empty;
        shown = λ g h. subst (λ s. Shows s g m []) (sym empty) h;
      }
    where
      kept : (k : ModuleId) → IsTrue (knows w (held.Module k)) → place_of v k ≡ place_of w k
      kept k h =
          let at = get-within w.places k.0 (ltb-true k.0 (length w.places) h) in
          ap (λ l. slice_get l k.0) places ∙ get-append w.places (p ∷ []) k.0 at.0 at.1 ∙ sym at.1

      fresh : (k : ModuleId) → IsTrue (knows w (held.Module k)) → same_module (next_module w) k ≡ false
      fresh k h = by (nat_eq (length w.places) k.0) refl
        where
          by : (b : Bool) → nat_eq (length w.places) k.0 ≡ b → b ≡ false
          by true e = let less = ltb-true k.0 (length w.places) h in let one = eqb-true (length w.places) k.0 e in absurd (omega arith)
          by false e = refl

-- ---- As many crates, where a map is written.

pub count-with : (ms : Maps) (id : MapId) (f : Map → Map) → length (maps_with ms id f).crates ≡ length ms.crates
count-with ms id f =
    with-cases ms id f (λ all. length all.crates ≡ length ms.crates) refl
    (λ x e. put-cases ms id x (f x) (λ all. length all.crates ≡ length ms.crates) e (λ none g. length-set ms.crates id.krate.0 (f x)) (λ b some g. refl))
