-- Builder calls keep what holds of every world.
use Rattle.std.proofs.Common.{◌≡◌, ◌<◌, ◌+◌, ℕ, suc, Bool, true, false, cond, List, [], ◌∷◌, ◌++◌, Option, Some, None, length, map, set, slice_get, nat_eq, sym, ap, ◌∙◌, refl, subst, arith, length-append, IfSome}
use Rattle.std.proofs.lemmas.List.{map-set, map_push}
use Rattle.std.specs.Option.{option_map, option_map_or}
use Rattle.std.proofs.lemmas.Option.{slice_get_within, slice_get-map}
use Rattle.std.proofs.lemmas.List.{length-map}
use Rattle.std.proofs.lemmas.Bool.{eqb-true}
use Rattle.dm_maps.proofs.Ids.{Crate, Edition, EditionedFileId, MapId, ModuleId, Name, Place}
use Rattle.dm_def_map.specs.Maps.{Map, Module, Modules, LocalMap, module_at, map_with_child}
use Rattle.dm_maps.specs.Maps.{Maps, IsFree, maps_and, maps_with_child}
use Rattle.dm_maps.specs.World.{World, maps_of, with_maps, numbered_map}
use Rattle.dm_maps.specs.Build.{with_child_of, with_child_at_place, next_module, next_crate, next_place, with_crate, fresh_crate}
use Rattle.dm_maps.specs.Trees.{Outline, outline, outlines, containers_of, IsWorldOf, IsWorld, numbered_outline}
use Rattle.dm_maps.proofs.GrowthLemmas.{longer, place_below}
use Rattle.dm_maps.proofs.MapWrites.{put-cases, with-there}
use Rattle.dm_maps.proofs.ModuleGrowth.{entry, map-set_own, outline-map_with_child, longer_crate, longer_block}
use Rattle.dm_maps.proofs.SoundLemmas.{map-lawful}
use Rattle.dm_maps.proofs.RootGrowth.{IsWorldOf-crate}

-- ---- The number of the next module is free.

lookup-below : (n : ℕ) (es : Modules) → ((i : ℕ) (m : ModuleId) (q : Option ModuleId) → slice_get (map entry es) i ≡ Some (m, q) → m.0 < n) → module_at es (record { 0 = n }) ≡ None
lookup-below n [] below = refl
lookup-below n (e ∷ es) below = by (nat_eq n e.0.0) refl (below 0 e.0 e.1.parent refl) (lookup-below n es (λ i m q h. below (suc i) m q h))
  where
    by : (b : Bool) → nat_eq n e.0.0 ≡ b → e.0.0 < n → module_at es (record { 0 = n }) ≡ None → cond b (Some e.1) (module_at es (record { 0 = n })) ≡ None
    by true t less rest = let same : n ≡ e.0.0 = eqb-true n e.0.0 t in absurd (omega arith)
    by false t less rest = rest

pub IsFree-next : (w : World) → IsWorld w → (id : MapId) → IsFree (maps_of w) id (next_module w)
IsFree-next w is id = by (numbered_map w id) refl
  where
    by : (o : Option Map) → numbered_map w id ≡ o → IfSome o (λ map. module_at map.modules (next_module w) ≡ None)
    by None e = tt
    by (Some x) e = let fine = map-lawful w is id x e in lookup-below (length w.places) x.modules (λ i m q h. slice_get_within w.places m.0 (record { map = x.id; index = i; parent = q }) (fine.listed i m q h))

-- ---- A module more.

pub numbered-outlines : (w : World) (id : MapId) → numbered_outline (outlines w.crate_maps) (outlines w.block_maps) id ≡ option_map outline (numbered_map w id)
numbered-outlines w id = elim id.block as (λ block. elim block [ None ↦ slice_get (outlines w.crate_maps) id.krate.0 | Some b ↦ slice_get (outlines w.block_maps) b.0 ] ≡ option_map outline (elim block [ None ↦ slice_get w.crate_maps id.krate.0 | Some b ↦ slice_get w.block_maps b.0 ])) [
  | None ↦ slice_get-map outline w.crate_maps id.krate.0
  | Some b ↦ slice_get-map outline w.block_maps b.0
]

pub IsWorld-at_place : (w : World) (q : ModuleId) (at : Place) (n : Name) (d : Module) → IsWorld w → slice_get w.places q.0 ≡ Some at → d.parent ≡ Some q → length w.places < 4294967295 → IsWorld (with_child_at_place w q at n d)
IsWorld-at_place w q at n d is e up room = by (numbered_map w at.map) refl (sym (numbered-outlines w at.map) ∙ (is.stands q at e).is_map)
  where
    by : (o : Option Map) → numbered_map w at.map ≡ o → option_map outline o ≡ Some (is.stands q at e).there → IsWorld (with_child_at_place w q at n d)
    by None g h = cc
    by (Some x) g h =
        let m = next_module w in
        let y = map_with_child x at.index n m d in
        let same : outline x ≡ (is.stands q at e).there = cc in
        let of_id : x.id ≡ at.map = ap (λ (o : Outline). o.id) same ∙ (is.stands q at e).of_id in
        let shape : longer (outline x) m (Some q) ≡ outline y = ap (longer (outline x) m) (sym up) ∙ sym (outline-map_with_child x at.index n m d) in
        let index : length (outline x).modules ≡ option_map_or (λ o. length o.modules) (numbered_map w at.map) 0 = length-map x.modules entry ∙ sym (ap (λ o. option_map_or (λ (z : Map). length z.modules) o 0) g) in
        let place : place_below (outline x) q ≡ next_place w at.map q = λ i. record { map = of_id i; index = index i; parent = Some q } in
        let Q : Place → List Outline → List Outline → List (Option ModuleId) → Type 0 = λ p cs bs inside. IsWorldOf (w.places ++ p ∷ []) cs bs inside (length w.local_maps) in
        let P : Maps → Type 0 = λ ms. Q (next_place w at.map q) (outlines ms.crates) (outlines ms.blocks) (containers_of ms.blocks) in
        let written : (ms : List Map) (k : ℕ) → set (outlines ms) k (longer (outline x) m (Some q)) ≡ outlines (set ms k y) = λ ms k. ap (set (outlines ms) k) shape ∙ sym (map-set outline ms k y) in
        let found : (ms : List Map) (k : ℕ) → slice_get ms k ≡ Some x → slice_get (outlines ms) k ≡ Some (outline x) = λ ms k there. slice_get-map outline ms k ∙ ap (option_map outline) there in
        subst P (sym (with-there (maps_of w) at.map (λ o. map_with_child o at.index n m d) x g))
        (put-cases (maps_of w) at.map x y P g
        (λ none there. subst (λ (z : Place × List Outline). Q z.0 z.1 (outlines w.block_maps) (containers_of w.block_maps)) (λ i. (place i, written w.crate_maps at.map.krate.0 i))
        (longer_crate w.places (outlines w.crate_maps) (outlines w.block_maps) (containers_of w.block_maps) (length w.local_maps) is q at e room (outline x) of_id none (found w.crate_maps at.map.krate.0 there)))
        (λ b some there. subst (λ (z : Place × List Outline × List (Option ModuleId)). Q z.0 (outlines w.crate_maps) z.1 z.2) (λ i. (place i, written w.block_maps b.0 i, sym (map-set_own (λ (z : Map). z.parent) w.block_maps b.0 x y there refl) i))
        (longer_block w.places (outlines w.crate_maps) (outlines w.block_maps) (containers_of w.block_maps) (length w.local_maps) is q at e room (outline x) of_id b some (found w.block_maps b.0 there))))

-- ---- A crate more.

pub IsWorld-crate : (w : World) (e : Edition) (f : EditionedFileId) → IsWorld w → length w.places < 4294967295 → IsWorld (with_crate w e f)
IsWorld-crate w e f is room =
    let grown = IsWorldOf-crate w.places (outlines w.crate_maps) (outlines w.block_maps) (containers_of w.block_maps) (length w.local_maps) is room in
    let count : length (outlines w.crate_maps) ≡ length w.crate_maps = length-map w.crate_maps outline in
    let maps : (k : ℕ) → outlines w.crate_maps ++ outline (fresh_crate (record { 0 = k }) e f (next_module w)) ∷ [] ≡ outlines (w.crate_maps ++ fresh_crate (record { 0 = k }) e f (next_module w) ∷ []) = λ k. sym (map_push outline w.crate_maps (fresh_crate (record { 0 = k }) e f (next_module w))) in
    let locals : length w.local_maps + 1 ≡ length (w.local_maps ++ [] ∷ []) = sym (length-append w.local_maps ([] ∷ [])) in
    let P : ℕ → List Outline → ℕ → Type 0 = λ k cs n. IsWorldOf (w.places ++ (record { map = record { krate = record { 0 = k }; block = None }; index = 0; parent = None }) ∷ []) cs (outlines w.block_maps) (containers_of w.block_maps) n in
    subst (P (length w.crate_maps) (outlines (w.crate_maps ++ fresh_crate (next_crate w) e f (next_module w) ∷ []))) locals
    (subst (λ cs. P (length w.crate_maps) cs (length w.local_maps + 1)) (maps (length w.crate_maps))
    (subst (λ k. P k (outlines w.crate_maps ++ outline (fresh_crate (record { 0 = k }) e f (next_module w)) ∷ []) (length w.local_maps + 1)) count grown))

-- ---- The tables of a world with a module more, one by one.

pub child-made : (w old : World) → w ≡ old → (q : ModuleId) (n : Name) (d : Module) (at place : Place) (m : ModuleId) (maps : Maps) (places : List Place)
    → slice_get w.places q.0 ≡ Some at → place ≡ next_place old at.map q → m ≡ next_module old
    → places ≡ w.places ++ place ∷ [] → maps ≡ maps_with_child (maps_of w) at.map at.index n m d
    → record (with_maps w maps) { places = places } ≡ with_child_of old q n d
child-made w old view q n d at place m maps places there is number e f =
    let next : place ≡ next_place w at.map q = is ∙ ap (λ (x : World). next_place x at.map q) (sym view) in
    let free : m ≡ next_module w = number ∙ ap next_module (sym view) in
    (λ i. record (with_maps w (f i)) { places = e i })
    ∙ (λ i. record (with_maps w (maps_with_child (maps_of w) at.map at.index n (free i) d)) { places = w.places ++ next i ∷ [] })
    ∙ sym (ap (λ o. option_map_or (λ p. with_child_at_place w q p n d) o w) there)
    ∙ ap (λ (x : World). with_child_of x q n d) view

-- and of a world with a crate more
pub crate-made : (w : World) (e : Edition) (f : EditionedFileId) (k : Crate) (root : ModuleId) (map : Map) (maps : Maps) (places : List Place) (locals : List LocalMap)
    → k ≡ next_crate w → root ≡ next_module w → map ≡ fresh_crate k e f root
    → places ≡ w.places ++ (record { map = record { krate = k; block = None }; index = 0; parent = None }) ∷ [] → locals ≡ w.local_maps ++ [] ∷ [] → maps ≡ maps_and (maps_of w) map
    → record (with_maps w maps) { places = places; local_maps = locals } ≡ with_crate w e f
crate-made w e f k root map maps places locals n m is p l c =
    (λ i. record (with_maps w (c i)) { places = p i; local_maps = l i })
    ∙ (λ i. record (with_maps w (maps_and (maps_of w) (is i))) { places = w.places ++ (record { map = record { krate = k; block = None }; index = 0; parent = None }) ∷ []; local_maps = w.local_maps ++ [] ∷ [] })
    ∙ (λ i. record w { crate_maps = w.crate_maps ++ fresh_crate (n i) e f (m i) ∷ []; places = w.places ++ (record { map = record { krate = n i; block = None }; index = 0; parent = None }) ∷ []; local_maps = w.local_maps ++ [] ∷ [] })
