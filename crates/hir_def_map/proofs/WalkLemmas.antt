-- The walk along the segments gives the answer at the stop: the program is what the definition says.
use Rattle.std.proofs.Common.{◌≡◌, ℕ, suc, ◌+◌, ◌<◌, Bool, true, false, cond, List, [], ◌∷◌, length, Option, None, Some, refl, sym, ◌∙◌, ap, arith, nat_eq, map, inl, inr}
use Rattle.std.specs.Option.{option_map}
use Rattle.std.proofs.lemmas.Bool.{cond-true, cond-false}
use Rattle.std.proofs.lemmas.Bool.Decides.{eqb_tells}
use Rattle.dm_base.specs.declared.fields_shape.FieldsShape.{FieldsShape}
use Rattle.dm_base.specs.declared.ids.EnumVariantId.{EnumVariantId}
use Rattle.dm_base.specs.declared.ids.ModuleId.{ModuleId}
use Rattle.dm_base.specs.declared.imports.ImportOrExternCrate.{ImportOrExternCrate}
use Rattle.dm_base.specs.declared.item_ids.ModuleDefId.{ModuleDefId}
use Rattle.dm_base.specs.declared.item_ids.ModuleDefId.TheVariants as def
use Rattle.dm_base.specs.declared.item_ids.AdtId.TheVariants as adt
use Rattle.dm_base.specs.declared.per_ns.Item.{Item}
use Rattle.dm_base.specs.declared.per_ns.PerNs.{PerNs}
use Rattle.dm_base.specs.Tree.{Tree, same_crate, crate_of, home}
use Rattle.dm_base.specs.Names.{Name}
use Rattle.dm_def_map.specs.Maps.{LocalMap}
use Rattle.dm_maps.specs.Readings.{Reading, read}
use Rattle.dm_maps.specs.Trees.{tree_of}
use Rattle.dm_maps.specs.World.{World}
use Rattle.hir_def_map.specs.declared.path_resolution.result.ResolvePathResult.{ResolvePathResult}
use Rattle.hir_def_map.specs.declared.path_resolution.segments.Entered.{Entered}
use Rattle.hir_def_map.specs.Answers.{from_other_crate}
use Rattle.hir_def_map.specs.Paths.{Entering, is_empty, at_variant, module_in, stop, seen_in, root_item, enter, enter_within}
use Rattle.hir_def_map.specs.Walk.{Stand, crossed, standing, entry, left_at, through, walk}
use Rattle.hir_def_map.proofs.StopLemmas.{stop-through, stop-here, own_crate, stop-enters}

add_twice : (k p : ℕ) (o : Option ℕ) → option_map (λ i. i + p) (option_map (λ i. i + k) o) ≡ option_map (λ i. i + (k + p)) o
add_twice k p None = refl
add_twice k p (Some i) = let e : (i + k) + p ≡ i + (k + p) = omega arith in ap Some e

enum-shifted : (i : Item ModuleDefId ImportOrExternCrate) (k p : ℕ) (o : Option (EnumVariantId × FieldsShape)) (b : Bool) → from_other_crate p (at_variant i k o b) ≡ crossed true (at_variant i (k + p) o b)
enum-shifted i k p None b = refl
enum-shifted i k p (Some v) true = refl
enum-shifted i k p (Some v) false = refl

-- an answer from position k on, shifted by p, is that from position k + p on
stop-shifted : (e : Entering) (t : Tree) (f : ModuleId) (x : PerNs) (k p : ℕ) (S : List Reading) → from_other_crate p (stop e t f x k S) ≡ crossed true (stop e t f x (k + p) S)
stop-shifted e t f x k p [] = refl
stop-shifted e t f x k p (s ∷ S) = by x.types (λ y. stop-shifted e t f y (k + 1) p S)
  where
    by_module : (i : Item ModuleDefId ImportOrExternCrate) (m : ModuleId) (b : Bool) → same_crate (crate_of t m) (crate_of t f) ≡ b
        → ((y : PerNs) → from_other_crate p (stop e t f y (k + 1) S) ≡ crossed true (stop e t f y ((k + 1) + p) S))
        → let z : PerNs = record x { types = Some (record i { def = def.ModuleId m }) } in from_other_crate p (stop e t f z k (s ∷ S)) ≡ crossed true (stop e t f z (k + p) (s ∷ S))
    by_module i m true is rest =
        let z : PerNs = record x { types = Some (record i { def = def.ModuleId m }) } in
        let next = cond-true _ (Some m) None is in
        let steps : (k + 1) + p ≡ (k + p) + 1 = omega arith in
        ap (from_other_crate p) (stop-through e t f z k s S m next)
        ∙ rest (seen_in t f s m)
        ∙ ap (λ n. crossed true (stop e t f (seen_in t f s m) n S)) steps
        ∙ ap (crossed true) (sym (stop-through e t f z (k + p) s S m next))
    by_module i m false is rest =
        let z : PerNs = record x { types = Some (record i { def = def.ModuleId m }) } in
        let next = cond-false _ (Some m) None is in
        ap (from_other_crate p) (stop-here e t f z k s S next)
        ∙ ap (λ o. record (from_other_crate p (from_other_crate k (e m (s ∷ S)))) { segment_index = o }) (add_twice k p (e m (s ∷ S)).segment_index)
        ∙ ap (crossed true) (sym (stop-here e t f z (k + p) s S next))

    by_def : (i : Item ModuleDefId ImportOrExternCrate) (c : ModuleDefId)
        → ((y : PerNs) → from_other_crate p (stop e t f y (k + 1) S) ≡ crossed true (stop e t f y ((k + 1) + p) S))
        → let z : PerNs = record x { types = Some (record i { def = c }) } in from_other_crate p (stop e t f z k (s ∷ S)) ≡ crossed true (stop e t f z (k + p) (s ∷ S))
    by_def i (def.ModuleId m) rest = by_module i m (same_crate (crate_of t m) (crate_of t f)) refl rest
    by_def i (def.AdtId (adt.EnumId n)) rest = enum-shifted (record i { def = def.AdtId (adt.EnumId n) }) k p (s.variant n) (is_empty S)
    by_def i (def.AdtId _) rest = refl
    by_def i _ rest = refl

    by : (o : Option (Item ModuleDefId ImportOrExternCrate))
        → ((y : PerNs) → from_other_crate p (stop e t f y (k + 1) S) ≡ crossed true (stop e t f y ((k + 1) + p) S))
        → let z : PerNs = record x { types = o } in from_other_crate p (stop e t f z k (s ∷ S)) ≡ crossed true (stop e t f z (k + p) (s ∷ S))
    by None rest = refl
    by (Some i) rest = by_def i i.def rest

crossed_twice : (d : Bool) (p : ℕ) (a : ResolvePathResult) → crossed d (from_other_crate p a) ≡ from_other_crate p a
crossed_twice true p a = refl
crossed_twice false p a = refl

-- a module of another crate answers as the walk that goes on in it
entered : (t : Tree) (m : ModuleId) (pos : ℕ) (s : Reading) (S : List Reading) → from_other_crate pos (enter t m (s ∷ S)) ≡ crossed true (stop (enter t) t (home t m) (seen_in t (home t m) s (home t m)) (pos + 1) S)
entered t m pos s S =
    let h = home t m in
    let y = seen_in t h s h in
    let bound : length S < suc (length S) = omega arith in
    let steps : (0 + 1) + pos ≡ pos + 1 = omega arith in
    ap (from_other_crate pos) (stop-through (enter_within (suc (length S)) t) t h (root_item h) 0 s S h (own_crate t h) ∙ stop-enters t h y (0 + 1) S (suc (length S)) bound)
    ∙ stop-shifted (enter t) t h y (0 + 1) pos S
    ∙ ap (λ n. crossed true (stop (enter t) t h y n S)) steps

-- the walk ends with the answer at the stop
pub walk-stop : (t : Tree) (a : Stand) (pos : ℕ) (S : List Reading) → walk t a pos S ≡ crossed a.differing (stop (enter t) t a.origin a.here pos S)
walk-stop t a pos [] = refl
walk-stop t a pos (s ∷ S) = by a.here.types (λ b. walk-stop t b (pos + 1) S)
  where
    Ends : PerNs → Type 0
    Ends z = walk t (record a { here = z }) pos (s ∷ S) ≡ crossed a.differing (stop (enter t) t a.origin z pos (s ∷ S))

    with_def : Item ModuleDefId ImportOrExternCrate → ModuleDefId → PerNs
    with_def i c = record a.here { types = Some (record i { def = c }) }

    chosen : ModuleId → Bool → Stand
    chosen m b =
        let e : Entered = cond b (record { differing = a.differing; origin = a.origin; krate = crate_of t a.origin; asked = m }) (record { differing = true; origin = home t m; krate = crate_of t (home t m); asked = home t m }) in
        record { differing = e.differing; origin = e.origin; here = seen_in t e.origin s e.asked }

    by_module : (i : Item ModuleDefId ImportOrExternCrate) (m : ModuleId) (b : Bool) → same_crate (crate_of t m) (crate_of t a.origin) ≡ b
        → ((z : Stand) → walk t z (pos + 1) S ≡ crossed z.differing (stop (enter t) t z.origin z.here (pos + 1) S))
        → Ends (with_def i (def.ModuleId m))
    by_module i m true is rest =
        ap (λ c. walk t (chosen m c) (pos + 1) S) is
        ∙ rest (chosen m true)
        ∙ ap (crossed a.differing) (sym (stop-through (enter t) t a.origin (with_def i (def.ModuleId m)) pos s S m (cond-true _ (Some m) None is)))
    by_module i m false is rest =
        ap (λ c. walk t (chosen m c) (pos + 1) S) is
        ∙ rest (chosen m false)
        ∙ sym (entered t m pos s S)
        ∙ sym (crossed_twice a.differing pos (enter t m (s ∷ S)))
        ∙ ap (crossed a.differing) (sym (stop-here (enter t) t a.origin (with_def i (def.ModuleId m)) pos s S (cond-false _ (Some m) None is)))

    by_def : (i : Item ModuleDefId ImportOrExternCrate) (c : ModuleDefId)
        → ((z : Stand) → walk t z (pos + 1) S ≡ crossed z.differing (stop (enter t) t z.origin z.here (pos + 1) S))
        → Ends (with_def i c)
    by_def i (def.ModuleId m) rest = by_module i m (same_crate (crate_of t m) (crate_of t a.origin)) refl rest
    by_def i (def.AdtId (adt.EnumId n)) rest = refl
    by_def i (def.AdtId _) rest = refl
    by_def i _ rest = refl

    by : (o : Option (Item ModuleDefId ImportOrExternCrate))
        → ((z : Stand) → walk t z (pos + 1) S ≡ crossed z.differing (stop (enter t) t z.origin z.here (pos + 1) S))
        → Ends (record a.here { types = o })
    by None rest = refl
    by (Some i) rest = by_def i i.def rest

pub empty-map : {A B : Type 0} (f : A → B) (xs : List A) → is_empty (map f xs) ≡ nat_eq (length xs) 0
empty-map f [] = refl
empty-map f (x ∷ xs) = elim (eqb_tells (suc (length xs)) 0) [ inl h ↦ (let e : suc (length xs) ≡ 0 = h.1 in absurd (omega arith)) | inr h ↦ sym h.0 ]

-- A walk along names, by the type that it has reached.
module _ (w : World) (L : LocalMap) (d : Bool) (f : ModuleId) (o : Option (Item ModuleDefId ImportOrExternCrate)) (pos : ℕ) (s : Name) (rest : List Name) where
  -- the walk, where this type is reached
  abbrev at_type : Option (Item ModuleDefId ImportOrExternCrate) → ResolvePathResult
  at_type x = walk (tree_of w) (standing d f x) pos (map (read w L) (s ∷ rest))

  -- the walk, where the type is this module, or none
  abbrev at_module : Item ModuleDefId ImportOrExternCrate → Option ModuleId → ResolvePathResult
  at_module i x = elim x [
    | Some m ↦ walk (tree_of w) (through (tree_of w) (standing d f o) m (read w L s)) (pos + 1) (map (read w L) rest)
    | None ↦ crossed d (left_at i pos (read w L s) (is_empty (map (read w L) rest)) i.def)
  ]

  pub walk-leaves : (i : Item ModuleDefId ImportOrExternCrate) → o ≡ Some i → module_in i.def ≡ None
      → walk (tree_of w) (standing d f o) pos (map (read w L) (s ∷ rest)) ≡ crossed d (left_at i pos (read w L s) (is_empty (map (read w L) rest)) i.def)
  walk-leaves i is none = ap at_type is ∙ ap (at_module i) none

  pub walk-goes : (i : Item ModuleDefId ImportOrExternCrate) (m : ModuleId) → o ≡ Some i → module_in i.def ≡ Some m
      → walk (tree_of w) (standing d f o) pos (map (read w L) (s ∷ rest)) ≡ walk (tree_of w) (through (tree_of w) (standing d f o) m (read w L s)) (pos + 1) (map (read w L) rest)
  walk-goes i m is some = ap at_type is ∙ ap (at_module i) some

-- where segments are left, a walk goes on by the type alone
pub walk-on : (w : World) (L : LocalMap) (d : Bool) (f : ModuleId) (o : Option (Item ModuleDefId ImportOrExternCrate)) (pos : ℕ) (s n : Name) (after rest : List Name) (i : Item ModuleDefId ImportOrExternCrate) (m : ModuleId) (e : Entered) (x : Option (Item ModuleDefId ImportOrExternCrate))
    → rest ≡ n ∷ after → o ≡ Some i → module_in i.def ≡ Some m → e ≡ entry (tree_of w) d f m → x ≡ (seen_in (tree_of w) e.origin (read w L s) e.asked).types
    → walk (tree_of w) (standing e.differing e.origin x) (pos + 1) (map (read w L) (n ∷ after)) ≡ walk (tree_of w) (standing d f o) pos (map (read w L) (s ∷ rest))
walk-on w L d f o pos s n after rest i m e x more is some into seen =
    let t = tree_of w in
    ap (λ z. walk t (standing e.differing e.origin z) (pos + 1) (map (read w L) (n ∷ after))) seen
    ∙ ap (λ g. walk t (standing g.differing g.origin (seen_in t g.origin (read w L s) g.asked).types) (pos + 1) (map (read w L) (n ∷ after))) into
    ∙ ap (λ ns. walk t (through t (standing d f o) m (read w L s)) (pos + 1) (map (read w L) ns)) (sym more)
    ∙ sym (walk-goes w L d f o pos s rest i m is some)
