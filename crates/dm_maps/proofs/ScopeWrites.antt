-- What a world is with another scope for one of its modules.
use Rattle.std.proofs.Common.{◌≡◌, ◌⊎◌, inl, inr, ℕ, zero, suc, ◌+◌, true, false, List, [], ◌∷◌, ◌++◌, Option, None, Some, length, map, set, slice_get, refl, sym, ap, subst, ◌∙◌, IsTrue, IsSome, nat_lt, eq-eqb, true≢false}
use Rattle.std.proofs.Math.ListN.{length-set}
use Rattle.std.specs.List.{AllByRecursion}
use Rattle.std.specs.Option.{option_map, option_map_or, option_and_then}
use Rattle.indexmap.specs.IndexMap.{set_value_at}
use Rattle.dm_maps.proofs.Ids.{ModuleId, Place}
use Rattle.dm_base.specs.Tree.{same_module}
use Rattle.dm_scope.specs.Scope.{Scope, no_scope}
use Rattle.dm_maps.specs.declared.check.held.HeldId.{HeldId}
use Rattle.dm_maps.specs.declared.check.held.HeldId.TheVariants as held
use Rattle.dm_def_map.specs.Maps.{Map, Module, Modules, nth_module, put_scope, with_scope_at, map_with_scope}
use Rattle.dm_maps.specs.Maps.{Maps, map_at, put_map, maps_with_scope}
use Rattle.dm_maps.specs.World.{World, maps_of, with_maps, place_of, placed_module, module_of, scope_of, scope_if_known, numbered_map, with_scope_in, with_scope}
use Rattle.dm_maps.specs.Known.{knows, KnowsAll}
use Rattle.dm_maps.specs.Holding.{vis_holds}
use Rattle.dm_maps.specs.ScopeHolds.{scope_holds}
use Rattle.dm_maps.specs.Holds.{module_holds}
use Rattle.dm_maps.specs.First.{Held, each_from, crate_holder, block_holder, module_holder, IsChecked}
use Rattle.dm_maps.specs.Built.{IsBuilt}
use Rattle.dm_maps.specs.Sound.{IsCheckedWorld}
use Rattle.dm_maps.specs.Trees.{outline, IsWorld}
use Rattle.dm_maps.proofs.AllLemmas.{all-left, all-right, all-append, all-weaker}
use Rattle.dm_maps.proofs.EntryLemmas.{get-set_same, at-set}
use Rattle.dm_maps.proofs.MapWrites.{put-cases, with-cases, with-there, put_own, put-there, put-other}
use Rattle.dm_def_map.specs.TableLaws.{set_value_at-own}
use Rattle.dm_maps.proofs.ModuleGrowth.{map-set_own}
use Rattle.dm_maps.proofs.SoundLemmas.{IsSound-checked, of_scope}
use Rattle.dm_maps.proofs.WorldGrowth.{numbered-outlines}

-- ---- What stands at a place after a write.

pub values-set : (es : Modules) (i : ℕ) (d : Module) → map (λ e. e.1) (set_value_at es i d) ≡ set (map (λ e. e.1) es) i d
values-set [] i d = refl
values-set (e ∷ es) zero d = refl
values-set (e ∷ es) (suc i) d = ap (λ l. e.1 ∷ l) (values-set es i d)

abbrev nth_of : Option Map → ℕ → Option Module
nth_of o j = option_and_then (λ (x : Map). nth_module x.modules j) o

abbrev module_by : World → Option Place → Option Module
module_by w o = option_and_then (placed_module w) o

abbrev scope_by : Option Module → Scope
scope_by o = option_map_or (λ (d : Module). d.scope) o no_scope

module _ (s : Scope) where
  abbrev scoped : Module → Module
  scoped d = record d { scope = s }

  -- what was there, or the module with the scope in its place
  abbrev Kept : Type 0 → Option Module → Option Module → Type 0
  Kept Slot o p = (p ≡ o) ⊎ (Slot × (d : Module) × (o ≡ Some d) × (p ≡ Some (scoped d)))

  kept-nth : (es : Modules) (i j : ℕ) → Kept (j ≡ i) (nth_module es j) (nth_module (with_scope_at es i s) j)
  kept-nth es i j = by (nth_module es i) refl
    where
      by : (o : Option Module) → nth_module es i ≡ o → Kept (j ≡ i) (nth_module es j) (nth_module (put_scope es i o s) j)
      by None e = inl refl
      by (Some d) e =
          let put = ap (λ l. slice_get l j) (values-set es i (scoped d)) in
          elim (at-set (map (λ x. x.1) es) i j d (scoped d) e) [ inl h ↦ inl (put ∙ h) | inr h ↦ inr (h.0, d, h.1, put ∙ h.2) ]

  -- two places are one
  abbrev Slot : World → Place → Place → Type 0
  Slot w q p = (numbered_map w p.map ≡ numbered_map w q.map) × (p.index ≡ q.index)

  kept-in : (w : World) (q p : Place) → Kept (Slot w q p) (placed_module w p) (placed_module (with_scope_in w (Some q) s) p)
  kept-in w q p =
      with-cases (maps_of w) q.map (λ x. map_with_scope x q.index s) (λ ms. Kept (Slot w q p) (placed_module w p) (nth_of (map_at ms p.map) p.index)) (inl refl)
      (λ x e. elim (put-other (maps_of w) q.map p.map x (map_with_scope x q.index s) e) [
        | inl h ↦ inl (ap (λ o. nth_of o p.index) h)
        | inr h ↦
            let before = ap (λ o. nth_of o p.index) h.0 in
            let after = ap (λ o. nth_of o p.index) h.1 in
            elim (kept-nth x.modules q.index p.index) [ inl g ↦ inl (after ∙ g ∙ sym before) | inr g ↦ inr ((h.0 ∙ sym e, g.0), g.1, before ∙ g.2, after ∙ g.3) ]
      ])

  -- ---- The scopes of modules.

  nth-own : (es : Modules) (i : ℕ) (d : Module) → nth_module es i ≡ Some d → nth_module (with_scope_at es i s) i ≡ Some (scoped d)
  nth-own es i d e =
      ap (λ o. nth_module (put_scope es i o s) i) e
      ∙ ap (λ l. slice_get l i) (values-set es i (scoped d))
      ∙ get-set_same (map (λ x. x.1) es) i d (scoped d) e

  in-own : (w : World) (q : Place) (d : Module) → placed_module w q ≡ Some d → placed_module (with_scope_in w (Some q) s) q ≡ Some (scoped d)
  in-own w q d h = by (numbered_map w q.map) refl h
    where
      by : (o : Option Map) → numbered_map w q.map ≡ o → nth_of o q.index ≡ Some d → placed_module (with_scope_in w (Some q) s) q ≡ Some (scoped d)
      by None e g = cc
      by (Some x) e g =
          ap (λ ms. nth_of (map_at ms q.map) q.index) (with-there (maps_of w) q.map (λ m. map_with_scope m q.index s) x e)
          ∙ ap (λ o. nth_of o q.index) (put-there (maps_of w) q.map x (map_with_scope x q.index s) e)
          ∙ nth-own x.modules q.index d g

  pub places-kept : (w : World) (o : Option Place) → (with_scope_in w o s).places ≡ w.places
  places-kept w None = refl
  places-kept w (Some q) = refl

  scope_of-known : (w : World) (m : ModuleId) (d : Module) → module_of w m ≡ Some d → scope_of (with_scope w m s) m ≡ s
  scope_of-known w m d h = by (place_of w m) refl h
    where
      by : (o : Option Place) → place_of w m ≡ o → module_by w o ≡ Some d → scope_by (module_by (with_scope_in w o s) (slice_get (with_scope_in w o s).places m.0)) ≡ s
      by None e g = cc
      by (Some q) e g =
          ap (λ ps. scope_by (module_by (with_scope_in w (Some q) s) (slice_get ps m.0))) (places-kept w (Some q))
          ∙ ap (λ o. scope_by (module_by (with_scope_in w (Some q) s) o)) e
          ∙ ap scope_by (in-own w q d g)

  -- the module's own
  pub scope_of-own : (w : World) (m : ModuleId) → IsSome (scope_if_known w m) → scope_of (with_scope w m s) m ≡ s
  scope_of-own w m h = of (module_of w m) refl h
    where
      of : (o : Option Module) → module_of w m ≡ o → IsSome (option_map (λ (d : Module). d.scope) o) → scope_of (with_scope w m s) m ≡ s
      of None e g = absurd (true≢false (sym g))
      of (Some d) e g = scope_of-known w m d e

  -- those of all others, since no two modules stand at one place
  pub scope_of-other : (w : World) → IsWorld w → (m k : ModuleId) → same_module m k ≡ false → scope_of (with_scope w m s) k ≡ scope_of w k
  scope_of-other w is m k other = by (place_of w m) refl
    where
      one : (q p : Place) → slice_get w.places m.0 ≡ Some q → slice_get w.places k.0 ≡ Some p → Slot w q p → same_module m k ≡ true
      one q p e f slot =
          let a = is.stands m q e in
          let b = is.stands k p f in
          let outlines_are : Some b.there ≡ Some a.there =
          sym b.is_map ∙ numbered-outlines w p.map ∙ ap (option_map outline) slot.0 ∙ sym (numbered-outlines w q.map) ∙ a.is_map in
          let same : b.there ≡ a.there = cc in
          let entries : Some (k, p.parent) ≡ Some (m, q.parent) =
          sym b.is_module ∙ (λ i. slice_get (same i).modules (slot.1 i)) ∙ a.is_module in
          let pair : (k, p.parent) ≡ (m, q.parent) = cc in
          eq-eqb m.0 k.0 (sym (ap (λ (x : ModuleId × Option ModuleId). x.0.0) pair))

      at : (q p : Place) → slice_get w.places m.0 ≡ Some q → slice_get w.places k.0 ≡ Some p → placed_module (with_scope_in w (Some q) s) p ≡ placed_module w p
      at q p e f = elim (kept-in w q p) [ inl h ↦ h | inr h ↦ absurd (true≢false (sym (one q p e f h.0) ∙ other)) ]

      others : (q : Place) → slice_get w.places m.0 ≡ Some q → (o : Option Place) → slice_get w.places k.0 ≡ o → scope_by (module_by (with_scope_in w (Some q) s) o) ≡ scope_by (module_by w o)
      others q e None f = refl
      others q e (Some p) f = ap scope_by (at q p e f)

      by : (o : Option Place) → place_of w m ≡ o → scope_by (module_by (with_scope_in w o s) (slice_get (with_scope_in w o s).places k.0)) ≡ scope_by (module_by w (slice_get w.places k.0))
      by None e = refl
      by (Some q) e = ap (λ ps. scope_by (module_by (with_scope_in w (Some q) s) (slice_get ps k.0))) (places-kept w (Some q)) ∙ others q e (slice_get w.places k.0) refl

-- ---- The module's own scope, written again, changes nothing.

module _ (s : Scope) where
  nth-again : (es : Modules) (i : ℕ) (d : Module) → nth_module es i ≡ Some d → d.scope ≡ s → with_scope_at es i s ≡ es
  nth-again es i d e same = ap (λ o. put_scope es i o s) e ∙ ap (λ x. set_value_at es i (record d { scope = x })) (sym same) ∙ set_value_at-own es i d e

  in-again : (w : World) (q : Place) (d : Module) → placed_module w q ≡ Some d → d.scope ≡ s → with_scope_in w (Some q) s ≡ w
  in-again w q d h same = by (numbered_map w q.map) refl h
    where
      by : (o : Option Map) → numbered_map w q.map ≡ o → nth_of o q.index ≡ Some d → with_scope_in w (Some q) s ≡ w
      by None e g = cc
      by (Some x) e g =
          ap (with_maps w)
          (with-there (maps_of w) q.map (λ m. map_with_scope m q.index s) x e
          ∙ ap (λ es. put_map (maps_of w) q.map (record x { modules = es })) (nth-again x.modules q.index d g same)
          ∙ put_own (maps_of w) q.map x e)

  pub with_scope-own : (w : World) (m : ModuleId) → scope_if_known w m ≡ Some s → with_scope w m s ≡ w
  with_scope-own w m h = by (place_of w m) h
    where
      at : (q : Place) (o : Option Module) → placed_module w q ≡ o → option_map (λ (d : Module). d.scope) o ≡ Some s → with_scope_in w (Some q) s ≡ w
      at q None e g = cc
      at q (Some d) e g = let same : d.scope ≡ s = cc in in-again w q d e same

      by : (o : Option Place) → option_map (λ (d : Module). d.scope) (option_and_then (placed_module w) o) ≡ Some s → with_scope_in w o s ≡ w
      by None g = refl
      by (Some q) g = at q (placed_module w q) refl g

-- ---- A checked world with a scope of which each id is the world's is checked.

abbrev Known : World → HeldId → Type 0
Known w h = IsTrue (knows w h)

abbrev Fine : World → Held → Type 0
Fine w h = KnowsAll w h.1

each-weaker : {X : Type 0} (P Q : Held → Type 0) (f g : ℕ → X → Held) → ((i : ℕ) (x : X) → P (f i x) → Q (g i x)) → (i : ℕ) (xs : List X) → AllByRecursion P (each_from f i xs) → AllByRecursion Q (each_from g i xs)
each-weaker P Q f g step i [] h = tt
each-weaker P Q f g step i (x ∷ xs) h = (step i x h.0, each-weaker P Q f g step (i + 1) xs h.1)

each-set : {X : Type 0} (f : ℕ → X → Held) (i k : ℕ) (xs : List X) (x y : X) → slice_get xs k ≡ Some x → ((j : ℕ) → f j y ≡ f j x) → each_from f i (set xs k y) ≡ each_from f i xs
each-set f i k [] x y h same = refl
each-set f i zero (z ∷ zs) x y h same = let is : x ≡ z = cc in ap (λ a. a ∷ each_from f (i + 1) zs) (same i ∙ ap (f i) is)
each-set f i (suc k) (z ∷ zs) x y h same = ap (λ l. f i z ∷ l) (each-set f (i + 1) k zs x y h same)

-- with what the world, w, and another, v, both know
module _ (w v : World) (same : (h : HeldId) → knows v h ≡ knows w h) (s : Scope) (fine : KnowsAll w (scope_holds s)) where
  knows-all : (hs : List HeldId) → KnowsAll w hs → KnowsAll v hs
  knows-all hs h = all-weaker (Known w) (Known v) (λ x e. same x ∙ e) hs h

  fine-list : (hs : List Held) → AllByRecursion (Fine w) hs → AllByRecursion (Fine v) hs
  fine-list hs h = all-weaker (Fine w) (Fine v) (λ x g. knows-all x.1 g) hs h

  module-fine : (o p : Option Module) (Slot : Type 0) → Kept s Slot o p → KnowsAll w (option_map_or module_holds o []) → KnowsAll v (option_map_or module_holds p [])
  module-fine o p Slot (inl e) h = subst (λ x. KnowsAll v (option_map_or module_holds x [])) (sym e) (knows-all (option_map_or module_holds o []) h)
  module-fine o p Slot (inr e) h =
      let d = e.1 in
      let old : KnowsAll w (vis_holds d.visibility ++ scope_holds d.scope) = subst (λ x. KnowsAll w (option_map_or module_holds x [])) e.2 h in
      let new : KnowsAll w (vis_holds d.visibility ++ scope_holds s) = all-append (Known w) (vis_holds d.visibility) (scope_holds s) (all-left (Known w) (vis_holds d.visibility) (scope_holds d.scope) old) fine in
      subst (λ x. KnowsAll v (option_map_or module_holds x [])) (sym e.3) (knows-all (vis_holds d.visibility ++ scope_holds s) new)

  -- maps, then modules, then a rest: if the maps hold what they held, and the modules what they held or what s holds
  fine-holders : (cs ds bs es rest : List Held) (ps : List Place) (Slot_of : Place → Type 0) → ds ≡ cs → es ≡ bs → ((p : Place) → Kept s (Slot_of p) (placed_module w p) (placed_module v p))
      → AllByRecursion (Fine w) (cs ++ (bs ++ (each_from (module_holder w) 0 ps ++ rest))) → AllByRecursion (Fine v) (ds ++ (es ++ (each_from (module_holder v) 0 ps ++ rest)))
  fine-holders cs ds bs es rest ps Slot_of crates blocks kept h =
      let old = each_from (module_holder w) 0 ps in
      let new = each_from (module_holder v) 0 ps in
      let after_crates = all-right (Fine w) cs (bs ++ (old ++ rest)) h in
      let after_blocks = all-right (Fine w) bs (old ++ rest) after_crates in
      all-append (Fine v) ds (es ++ (new ++ rest)) (subst (λ l. AllByRecursion (Fine v) l) (sym crates) (fine-list cs (all-left (Fine w) cs (bs ++ (old ++ rest)) h)))
      (all-append (Fine v) es (new ++ rest) (subst (λ l. AllByRecursion (Fine v) l) (sym blocks) (fine-list bs (all-left (Fine w) bs (old ++ rest) after_crates)))
      (all-append (Fine v) new rest
      (each-weaker (Fine w) (Fine v) (module_holder w) (module_holder v) (λ i p g. module-fine (placed_module w p) (placed_module v p) (Slot_of p) (kept p) g) 0 ps (all-left (Fine w) old rest after_blocks))
      (fine-list rest (all-right (Fine w) old rest after_blocks))))

-- maps that hold what the world's hold, beside their modules
pub record Holds (w : World) (ms : Maps) : Type 0 where
  pub count : length ms.crates ≡ length w.crate_maps
  pub crates : each_from (crate_holder w.local_maps) 0 ms.crates ≡ each_from (crate_holder w.local_maps) 0 w.crate_maps
  pub blocks : map block_holder ms.blocks ≡ map block_holder w.block_maps

Holds-scoped : (w : World) (q : Place) (s : Scope) → Holds w (maps_with_scope (maps_of w) q.map q.index s)
Holds-scoped w q s =
    let k = q.map.krate.0 in
    with-cases (maps_of w) q.map (λ x. map_with_scope x q.index s) (Holds w) (record { count = refl; crates = refl; blocks = refl })
    (λ x e. let y = map_with_scope x q.index s in put-cases (maps_of w) q.map x y (Holds w) e
    (λ none g. record { count = length-set w.crate_maps k y; crates = each-set (crate_holder w.local_maps) 0 k w.crate_maps x y g (λ j. refl); blocks = refl })
    (λ b some g. record { count = refl; crates = refl; blocks = map-set_own block_holder w.block_maps b.0 x y g refl }))

pub knows-kept : (w : World) (ms : Maps) → length ms.crates ≡ length w.crate_maps → (h : HeldId) → knows (with_maps w ms) h ≡ knows w h
knows-kept w ms count (held.Module m) = refl
knows-kept w ms count (held.Crate k) = ap (nat_lt k.0) count
knows-kept w ms count (held.Use u) = refl
knows-kept w ms count (held.Item k n) = refl
knows-kept w ms count (held.Variant v) = refl
knows-kept w ms count (held.Macro m) = refl

-- a scope written leaves which ids are known
pub knows-scoped : (w : World) (m : ModuleId) (s : Scope) (h : HeldId) → knows (with_scope w m s) h ≡ knows w h
knows-scoped w m s h = by (place_of w m)
  where
    by : (o : Option Place) → knows (with_scope_in w o s) h ≡ knows w h
    by None = refl
    by (Some q) = knows-kept w (maps_with_scope (maps_of w) q.map q.index s) (Holds-scoped w q s).count h

IsChecked-scoped : (w : World) (m : ModuleId) (s : Scope) → IsChecked w → KnowsAll w (scope_holds s) → IsChecked (with_scope w m s)
IsChecked-scoped w m s checked fine = by (place_of w m)
  where
    by : (o : Option Place) → IsChecked (with_scope_in w o s)
    by None = checked
    by (Some q) =
        let ms = maps_with_scope (maps_of w) q.map q.index s in
        let kept = Holds-scoped w q s in
        fine-holders w (with_maps w ms) (knows-kept w ms kept.count) s fine _ _ _ _ _ w.places _ kept.crates kept.blocks (kept-in s w q) checked

-- and so it still is a checked world
pub IsCheckedWorld-scoped : (w v : World) (m : ModuleId) (s : Scope) → IsCheckedWorld w → IsBuilt v → v ≡ with_scope w m s → KnowsAll w (scope_holds s) → IsCheckedWorld v
IsCheckedWorld-scoped w v m s is built same fine =
    let checked : IsChecked v = subst IsChecked (sym same) (IsChecked-scoped w m s is.checked fine) in
    record { lawful = built.0; listed = built.1; family = built.2; checked = checked; sound = IsSound-checked v checked built }

-- what a checked world's scope holds is the world's
pub scope-known : (w : World) (m : ModuleId) → IsCheckedWorld w → KnowsAll w (scope_holds (scope_of w m))
scope-known w m is = of_scope w is.checked (λ s. KnowsAll w (scope_holds s)) tt (λ s h. h) m
