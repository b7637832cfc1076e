-- What a cut keeps: the name-independent part of the world, the maps without what scopes hold, and what the world says
-- of the names of the list.
use Rattle.std.proofs.Common.{◌≡◌, ℕ, Bool, true, false, cond, not, ◌||◌, List, [], ◌∷◌, Option, None, Some, refl, sym, ◌∙◌, ap, map, true≢false, eq-eqb}
use Rattle.std.specs.Cmp.{nat_eq_equiv}
use Rattle.std.specs.List.{cons_option}
use Rattle.std.specs.Option.{option_map, option_map_or, option_and_then, is_some}
use Rattle.std.specs.Ordering.{is_lt, nat_cmp}
use Rattle.std.specs.Map.{lookup}
use Rattle.std.specs.Prelude.{slice_get}
use Rattle.std.proofs.lemmas.Option.{slice_get-map}
use Rattle.std.proofs.lemmas.Simd.{map-map}
use Rattle.std.proofs.lemmas.Map.Entries.{lookup-filter-keys}
use Rattle.std.proofs.lemmas.Map.Made.{lookup-map_values}
use Rattle.std.proofs.lemmas.Bool.{cond-true, cond-false}
use Rattle.std.proofs.lemmas.Slice.Eq.{bytes_eq-Decides}
use Rattle.indexmap.specs.IndexMap.{insert_entry}
use Rattle.dm_base.specs.contracts.value_eq.EnumIdValueEq.TheImpl.Laws as enum_value
use Rattle.dm_base.specs.declared.ids.BlockId.{BlockId}
use Rattle.dm_base.specs.declared.ids.EnumId.{EnumId}
use Rattle.dm_base.specs.declared.ids.MapId.{MapId}
use Rattle.dm_base.specs.declared.ids.ModuleId.{ModuleId}
use Rattle.dm_base.specs.declared.ids.UseId.{UseId}
use Rattle.dm_base.specs.declared.item_ids.MacroId.{MacroId}
use Rattle.dm_base.specs.declared.macros.MacroCallStyles.{MacroCallStyles}
use Rattle.dm_base.specs.declared.macros.MacroLoc.{MacroLoc}
use Rattle.dm_base.specs.Names.{Name, same_name, find_name}
use Rattle.dm_base.specs.Builtins.{builtin_words}
use Rattle.dm_scope.specs.Pushes.{last_of}
use Rattle.dm_scope.specs.Scope.{Scope, no_scope, bound_in, legacy_in}
use Rattle.dm_scope.specs.Tables.{no_style}
use Rattle.dm_def_map.specs.Variants.{Variants, Enums, same_enum, variants_in}
use Rattle.dm_maps.specs.Kinds.{macro_number}
use Rattle.dm_def_map.specs.Maps.{Map, Module, Modules, LocalMap, nth_module}
use Rattle.dm_maps.specs.declared.place.Place.{Place}
use Rattle.dm_maps.specs.Readings.{setting_of, read, is_edition_2015, styles_by, styles_of, variants_of, macro_uses_of}
use Rattle.dm_maps.specs.Trees.{tree_of, tree_by, outline}
use Rattle.dm_maps.specs.World.{World, numbered_map, crate_map, place_of, placed_module, scope_of}
use Rattle.dm_maps.specs.Cut.{among, kept, last_alone, cut_scope, cut_module, cut_prelude, cut_macro, cut_map, without_enum, with_enum, with_variants, cut_enums, cut, cut_local}

-- ---- look-ups in cut tables

-- what is put under another name leaves what stands under a name
pub find-other : {A : Type 0} (n k : Name) (v : A) → same_name n k ≡ false → (es : List (Name × A)) → find_name n (insert_entry same_name es k v) ≡ find_name n es
find-other n k v other [] = ap (λ b. cond b (Some v) None) other
find-other {A} n k v other (e ∷ es) = by (same_name k e.0) refl (find-other n k v other es)
  where
    by : (b : Bool) → same_name k e.0 ≡ b → find_name n (insert_entry same_name es k v) ≡ find_name n es → find_name n (cond b ((e.0, v) ∷ es) (e ∷ insert_entry same_name es k v)) ≡ find_name n (e ∷ es)
    by true is rest =
        let here : same_name n e.0 ≡ false = ap (same_name n) (sym ((bytes_eq-Decides k e.0).0 is)) ∙ other in
        cond-false (same_name n e.0) _ _ here ∙ sym (cond-false (same_name n e.0) _ _ here)
    by false is rest = ap (cond (same_name n e.0) (Some e.1)) rest

none-either : {A : Type 0} (b : Bool) → cond b (let o : Option A = None in o) None ≡ None
none-either true = refl
none-either false = refl

-- what is kept of a table says the same of the names of N, and nothing of others
kept-says : {A : Type 0} (N : List Name) (n : Name) (es : List (Name × A)) → find_name n (kept N es) ≡ cond (among N n) (find_name n es) None
kept-says [] n es = refl
kept-says {A} (k ∷ N) n es = by (same_name n k) refl (find_name k es) refl (kept-says N n es)
  where
    by : (b : Bool) → same_name n k ≡ b → (o : Option A) → find_name k es ≡ o → find_name n (kept N es) ≡ cond (among N n) (find_name n es) None
        → find_name n (cons_option (option_map (λ v. (k, v)) o) (kept N es)) ≡ cond (b || among N n) (find_name n es) None
    by true is (Some v) has rest = cond-true (same_name n k) _ _ is ∙ sym has ∙ ap (λ x. find_name x es) (sym ((bytes_eq-Decides n k).0 is))
    by true is None has rest =
        let none : find_name n es ≡ None = ap (λ x. find_name x es) ((bytes_eq-Decides n k).0 is) ∙ has in
        rest ∙ ap (λ o. cond (among N n) o None) none ∙ none-either (among N n) ∙ sym none
    by false is (Some v) has rest = cond-false (same_name n k) _ _ is ∙ rest
    by false is None has rest = rest

-- and so it says the same of each of them
find-kept : {A : Type 0} (N : List Name) (n : Name) → among N n ≡ true → (es : List (Name × A)) → find_name n (kept N es) ≡ find_name n es
find-kept N n h es = kept-says N n es ∙ cond-true (among N n) _ _ h

-- of an empty table nothing is kept
kept-nothing : {A : Type 0} (N : List Name) → kept N (let es : List (Name × A) = [] in es) ≡ []
kept-nothing [] = refl
kept-nothing (n ∷ N) = kept-nothing N

last-alone : {A : Type 0} (ms : List A) → last_of (last_alone ms) ≡ last_of ms
last-alone {A} ms = go (last_of ms)
  where
    go : (l : Option A) → last_of (elim l as (λ x. List A) [ None ↦ [] | Some x ↦ x ∷ [] ]) ≡ l
    go None = refl
    go (Some x) = refl

-- ---- the enums of a cut world

pub same-enum : (e d : EnumId) → same_enum e d ≡ true → e ≡ d
same-enum = enum_value.same-law

find-without : (k e : EnumId) (es : Enums) → lookup (same_enum k) (without_enum e es) ≡ cond (not (same_enum e k)) (lookup (same_enum k) es) None
find-without k e es = lookup-filter-keys (same_enum k) (λ x. not (same_enum e x)) (not (same_enum e k)) (λ x is. ap (λ y. not (same_enum e y)) (sym (same-enum k x is))) es

-- an enum among others that are not it
find-with : (k e : EnumId) (vs : Variants) (es : Enums) → lookup (same_enum e) es ≡ None → lookup (same_enum k) (with_enum e vs es) ≡ cond (same_enum k e) (Some vs) (lookup (same_enum k) es)
find-with k e vs [] none = refl
find-with k e vs (x ∷ es) none = by (is_lt (nat_cmp e.0 x.0.0)) (same_enum e x.0) refl none (find-with k e vs es)
  where
    apart : (b : Bool) → same_enum k e ≡ b → same_enum k x.0 ≡ true → same_enum e x.0 ≡ false → b ≡ false
    apart false same is other = refl
    apart true same is other = absurd (true≢false (sym is ∙ ap (λ y. same_enum y x.0) (same-enum k e same) ∙ other))

    swapped : (b : Bool) → same_enum k x.0 ≡ b → same_enum e x.0 ≡ false → cond b (Some x.1) (cond (same_enum k e) (Some vs) (lookup (same_enum k) es)) ≡ cond (same_enum k e) (Some vs) (cond b (Some x.1) (lookup (same_enum k) es))
    swapped false is other = refl
    swapped true is other = sym (cond-false (same_enum k e) _ _ (apart (same_enum k e) refl is other))

    by : (b c : Bool) → same_enum e x.0 ≡ c → cond c (Some x.1) (lookup (same_enum e) es) ≡ None → (lookup (same_enum e) es ≡ None → lookup (same_enum k) (with_enum e vs es) ≡ cond (same_enum k e) (Some vs) (lookup (same_enum k) es))
        → lookup (same_enum k) (cond b ((e, vs) ∷ x ∷ es) (x ∷ with_enum e vs es)) ≡ cond (same_enum k e) (Some vs) (lookup (same_enum k) (x ∷ es))
    by b true is here rest = absurd (true≢false (ap is_some here))
    by true false is here rest = refl
    by false false is here rest = ap (cond (same_enum k x.0) (Some x.1)) (rest here) ∙ swapped (same_enum k x.0) refl is

-- of each enum a cut has the variants under names of N
enums-cut : (N : List Name) (k : EnumId) (es : Enums) → variants_in (cut_enums N es) k ≡ kept N (variants_in es k)
enums-cut N k [] = sym (kept-nothing N)
enums-cut N k (x ∷ es) = by (kept N x.1) refl (same_enum k x.0) refl (enums-cut N k es)
  where
    rest : Enums
    rest = cut_enums N es

    all : Option Variants → Variants
    all o = option_map_or (λ vs. vs) o []

    gone : same_enum x.0 k ≡ true → lookup (same_enum k) (without_enum x.0 rest) ≡ None
    gone is = find-without k x.0 rest ∙ ap (λ b. cond (not b) (lookup (same_enum k) rest) None) is

    stays : same_enum x.0 k ≡ false → lookup (same_enum k) (without_enum x.0 rest) ≡ lookup (same_enum k) rest
    stays is = find-without k x.0 rest ∙ ap (λ b. cond (not b) (lookup (same_enum k) rest) None) is

    turned : (b : Bool) → same_enum k x.0 ≡ b → same_enum x.0 k ≡ b
    turned b is = sym (nat_eq_equiv.symm k.0 x.0.0) ∙ is

    by : (vs : Variants) → kept N x.1 ≡ vs → (b : Bool) → same_enum k x.0 ≡ b → all (lookup (same_enum k) rest) ≡ kept N (variants_in es k)
        → all (lookup (same_enum k) (with_variants x.0 vs (without_enum x.0 rest))) ≡ kept N (all (cond b (Some x.1) (lookup (same_enum k) es)))
    by [] has true is r = ap all (gone (turned true is)) ∙ sym has
    by [] has false is r = ap all (stays (turned false is)) ∙ r
    by (v ∷ vs) has b is r = ap all (find-with k x.0 (v ∷ vs) (without_enum x.0 rest) (find-without x.0 x.0 rest ∙ ap (λ c. cond (not c) (lookup (same_enum x.0) rest) None) (eq-eqb x.0.0 x.0.0 refl))) ∙ both b is r
      where
        both : (c : Bool) → same_enum k x.0 ≡ c → all (lookup (same_enum k) rest) ≡ kept N (variants_in es k)
            → all (cond (same_enum k x.0) (Some (v ∷ vs)) (lookup (same_enum k) (without_enum x.0 rest))) ≡ kept N (all (cond c (Some x.1) (lookup (same_enum k) es)))
        both true same s = ap all (cond-true (same_enum k x.0) _ _ same) ∙ sym has
        both false other s = ap all (cond-false (same_enum k x.0) _ _ other ∙ stays (turned false other)) ∙ s

-- ---- the maps of a cut world

numbered-cut : (w : World) (N : List Name) (id : MapId) → numbered_map (cut w N) id ≡ option_map (cut_map N) (numbered_map w id)
numbered-cut w N id = go id.block
  where
    go : (b : Option BlockId) → numbered_map (cut w N) (record { krate = id.krate; block = b }) ≡ option_map (cut_map N) (numbered_map w (record { krate = id.krate; block = b }))
    go None = slice_get-map (cut_map N) w.crate_maps id.krate.0
    go (Some b) = slice_get-map (cut_map N) w.block_maps b.0

nth-cut : (N : List Name) (es : Modules) (i : ℕ) → nth_module (map (λ e. (e.0, cut_module N e.1)) es) i ≡ option_map (cut_module N) (nth_module es i)
nth-cut N es i =
    ap (λ ds. slice_get ds i) (map-map (λ (e : ModuleId × Module). e.1) (λ e. (e.0, cut_module N e.1)) es ∙ sym (map-map (cut_module N) (λ (e : ModuleId × Module). e.1) es))
    ∙ slice_get-map (cut_module N) (map (λ (e : ModuleId × Module). e.1) es) i

module-cut : (w : World) (N : List Name) (p : Place) → placed_module (cut w N) p ≡ option_map (cut_module N) (placed_module w p)
module-cut w N p = ap (λ o. option_and_then (λ m. nth_module m.modules p.index) o) (numbered-cut w N p.map) ∙ go (numbered_map w p.map)
  where
    go : (o : Option Map) → option_and_then (λ m. nth_module m.modules p.index) (option_map (cut_map N) o) ≡ option_map (cut_module N) (option_and_then (λ m. nth_module m.modules p.index) o)
    go None = refl
    go (Some m) = nth-cut N m.modules p.index

no_scope-cut : (N : List Name) → no_scope ≡ cut_scope N no_scope
no_scope-cut N = λ i. record no_scope {
  types = record { items = sym (kept-nothing N) i; records = [] };
  values = record { items = sym (kept-nothing N) i; records = [] };
  macros = record { items = sym (kept-nothing N) i; records = [] };
  legacy_macros = map (λ e. (e.0, last_alone e.1)) (sym (kept-nothing N) i);
}

scope-cut : (w : World) (N : List Name) (m : ModuleId) → scope_of (cut w N) m ≡ cut_scope N (scope_of w m)
scope-cut w N m = by (place_of w m)
  where
    scope : Option Module → Scope
    scope o = option_map_or (λ d. d.scope) o no_scope

    cut_after : (o : Option Module) → scope (option_map (cut_module N) o) ≡ cut_scope N (scope o)
    cut_after None = no_scope-cut N
    cut_after (Some d) = refl

    by : (o : Option Place) → scope (option_and_then (placed_module (cut w N)) o) ≡ cut_scope N (scope (option_and_then (placed_module w) o))
    by None = no_scope-cut N
    by (Some p) = ap scope (module-cut w N p) ∙ cut_after (placed_module w p)

-- ---- what the cut leaves of maps

outline-cut : (N : List Name) (m : Map) → outline (cut_map N m) ≡ outline m
outline-cut N m = ap (λ es. record { id = m.id; root = m.root; modules = es }) (map-map (λ (e : ModuleId × Module). (e.0, e.1.parent)) (λ e. (e.0, cut_module N e.1)) m.modules)

-- each map has its id, its root and its modules
pub numbered-outline-cut : (w : World) (N : List Name) (id : MapId) → option_map outline (numbered_map (cut w N) id) ≡ option_map outline (numbered_map w id)
numbered-outline-cut w N id = ap (option_map outline) (numbered-cut w N id) ∙ go (numbered_map w id)
  where
    go : (o : Option Map) → option_map outline (option_map (cut_map N) o) ≡ option_map outline o
    go None = refl
    go (Some m) = ap (λ x. Some x) (outline-cut N m)

-- ---- the name-independent part, and what is said of a name

-- what is read of a map, where the cut leaves it
read-map : {A : Type 0} (N : List Name) (f : Map → A) (z : A) → ((m : Map) → f (cut_map N m) ≡ f m) → (o : Option Map) → option_map_or f (option_map (cut_map N) o) z ≡ option_map_or f o z
read-map N f z same None = refl
read-map N f z same (Some m) = same m

root-cut : (N : List Name) (o : Option Map) → option_map (λ m. m.root) (option_map (cut_map N) o) ≡ option_map (λ m. m.root) o
root-cut N None = refl
root-cut N (Some m) = refl

prelude-cut : (N : List Name) (o : Option Map) → option_and_then (λ m. option_map (λ (p : ModuleId × Option UseId). p.0) m.prelude) (option_map (cut_map N) o) ≡ option_and_then (λ m. option_map (λ (p : ModuleId × Option UseId). p.0) m.prelude) o
prelude-cut N None = refl
prelude-cut N (Some m) = by m.prelude
  where
    by : (p : Option (ModuleId × Option UseId)) → option_map (λ (q : ModuleId × Option UseId). q.0) (option_map cut_prelude p) ≡ option_map (λ (q : ModuleId × Option UseId). q.0) p
    by None = refl
    by (Some p) = refl

tree-cut : (w : World) (N : List Name) → tree_of (cut w N) ≡ tree_of w
unfolding tree_of
tree-cut w N = ap (tree_by w.places) (map-map (λ (m : Map). m.parent) (cut_map N) w.block_maps)

-- the kinds of macros stay
styles-cut : (w : World) (N : List Name) (m : MacroId) → styles_of (cut w N) m ≡ styles_of w m
styles-cut w N m = ap said (slice_get-map cut_macro w.macros (macro_number m)) ∙ go (slice_get w.macros (macro_number m))
  where
    said : Option (ModuleId × MacroLoc) → MacroCallStyles
    said o = option_map_or (λ e. styles_by m e.1) o no_style

    go : (o : Option (ModuleId × MacroLoc)) → said (option_map cut_macro o) ≡ said o
    go None = refl
    go (Some e) = refl

-- the cut has the name-independent part of the world
pub setting-cut : (w : World) (N : List Name) → setting_of (cut w N) ≡ setting_of w
unfolding setting_of
setting-cut w N = λ i. record {
  tree = tree-cut w N i;
  root_of = λ k. (ap (λ o. option_map (λ m. m.root) o) (slice_get-map (cut_map N) w.crate_maps k.0) ∙ root-cut N (crate_map w k)) i;
  is_2015 = λ k. (ap (λ o. option_map_or (λ m. is_edition_2015 m.edition) o false) (slice_get-map (cut_map N) w.crate_maps k.0) ∙ read-map N (λ m. is_edition_2015 m.edition) false (λ m. refl) (crate_map w k)) i;
  block_root = λ b. (ap (λ o. option_map (λ m. m.root) o) (slice_get-map (cut_map N) w.block_maps b.0) ∙ root-cut N (slice_get w.block_maps b.0)) i;
  prelude = λ id. (ap (λ o. option_and_then (λ m. option_map (λ (p : ModuleId × Option UseId). p.0) m.prelude) o) (numbered-cut w N id) ∙ prelude-cut N (numbered_map w id)) i;
  styles = λ m. styles-cut w N m i;
  rules = w.rules;
}

bound-cut : (N : List Name) (n : Name) → among N n ≡ true → (s : Scope) → bound_in (cut_scope N s) n ≡ bound_in s n
bound-cut N n h s = λ i. record { types = find-kept N n h s.types.items i; values = find-kept N n h s.values.items i; macros = find-kept N n h s.macros.items i }

legacy-cut : (N : List Name) (n : Name) → among N n ≡ true → (s : Scope) → legacy_in (cut_scope N s) n ≡ legacy_in s n
legacy-cut N n h s = ap last (lookup-map_values last_alone (same_name n) (kept N s.legacy_macros)) ∙ same (find_name n (kept N s.legacy_macros)) ∙ ap last (find-kept N n h s.legacy_macros)
  where
    last : Option (List MacroId) → Option MacroId
    last o = elim o as (λ x. Option MacroId) [ None ↦ None | Some ms ↦ last_of ms ]

    same : (o : Option (List MacroId)) → last (option_map last_alone o) ≡ last o
    same None = refl
    same (Some ms) = last-alone ms

variants-cut : (w : World) (N : List Name) (e : EnumId) → variants_of (cut w N) e ≡ kept N (variants_of w e)
variants-cut w N e = enums-cut N e w.enums

macro_uses-cut : (w : World) (N : List Name) (id : MapId) → macro_uses_of (cut w N) id ≡ kept N (macro_uses_of w id)
macro_uses-cut w N id = ap (λ o. option_map_or (λ m. m.macro_use) o []) (numbered-cut w N id) ∙ go (numbered_map w id)
  where
    go : (o : Option Map) → option_map_or (λ m. m.macro_use) (option_map (cut_map N) o) [] ≡ kept N (option_map_or (λ m. m.macro_use) o [])
    go None = sym (kept-nothing N)
    go (Some m) = refl

-- and of each name of the list it says what the world says
pub read-cut : (w : World) (L : LocalMap) (N : List Name) (n : Name) → among N n ≡ true → read (cut w N) (cut_local L N) n ≡ read w L n
unfolding read
read-cut w L N n h = λ i. record {
  bound = λ m. (ap (λ s. bound_in s n) (scope-cut w N m) ∙ bound-cut N n h (scope_of w m)) i;
  legacy = λ m. (ap (λ s. legacy_in s n) (scope-cut w N m) ∙ legacy-cut N n h (scope_of w m)) i;
  variant = λ e. (ap (find_name n) (variants-cut w N e) ∙ find-kept N n h (variants_of w e)) i;
  macro_use = λ id. (ap (find_name n) (macro_uses-cut w N id) ∙ find-kept N n h (macro_uses_of w id)) i;
  extern = find-kept N n h L i;
  builtin = find_name n builtin_words;
}
