-- A block more keeps what holds of every world.
use Rattle.std.proofs.Common.{◌≡◌, ◌<◌, ℕ, List, [], ◌∷◌, ◌++◌, Option, Some, None, length, map, sym, ap, ◌∙◌, subst, refl}
use Rattle.std.proofs.lemmas.List.{map_push}
use Rattle.std.specs.Option.{option_map_or}
use Rattle.std.proofs.lemmas.List.{length-map}
use Rattle.dm_maps.proofs.Ids.{AstId, BlockId, Crate, ModuleId, Place}
use Rattle.dm_def_map.specs.Maps.{Map}
use Rattle.dm_maps.specs.Maps.{Maps, maps_and}
use Rattle.dm_maps.specs.World.{World, crate_map, maps_of, with_maps}
use Rattle.dm_maps.specs.Build.{next_module}
use Rattle.dm_maps.specs.BuildBlocks.{next_block, crate_in, fresh_block, with_block_of, with_block}
use Rattle.dm_maps.specs.Trees.{Outline, outline, outlines, containers_of, IsWorldOf, IsWorld}
use Rattle.dm_maps.proofs.RootGrowth.{IsWorldOf-block}

-- the world of a block more is lawful
pub IsWorld-block_of : (w : World) (m : ModuleId) (a : AstId) (c : Map) → IsWorld w → m.0 < length w.places → length w.places < 4294967295 → IsWorld (with_block_of w (crate_in w m) m a c)
IsWorld-block_of w m a c is known room =
    let b = w.block_maps in
    let new = fresh_block c (crate_in w m) (next_block w) m a (next_module w) in
    let count : length (outlines b) ≡ length b = length-map b outline in
    let inside : length (containers_of b) ≡ length b = length-map b (λ (x : Map). x.parent) in
    let grown = IsWorldOf-block w.places (outlines w.crate_maps) (outlines b) (containers_of b) (length w.local_maps) is room m known (crate_in w m) refl (inside ∙ sym count) in
    let maps : outlines b ++ outline new ∷ [] ≡ outlines (b ++ new ∷ []) = sym (map_push outline b new) in
    let containers : containers_of b ++ Some m ∷ [] ≡ containers_of (b ++ new ∷ []) = sym (map_push (λ (x : Map). x.parent) b new) in
    let P : ℕ → List Outline → List (Option ModuleId) → Type 0 = λ n bs cs. IsWorldOf (w.places ++ (record { map = record { krate = crate_in w m; block = Some (record { 0 = n }) }; index = 0; parent = None }) ∷ []) (outlines w.crate_maps) bs cs (length w.local_maps) in
    let Q : ℕ → Type 0 = λ n. P n (outlines b ++ (record { id = record { krate = crate_in w m; block = Some (record { 0 = n }) }; root = next_module w; modules = (next_module w, None) ∷ [] }) ∷ []) (containers_of b ++ Some m ∷ []) in
    subst (P (length b) (outlines (b ++ new ∷ []))) containers
    (subst (λ bs. P (length b) bs (containers_of b ++ Some m ∷ [])) maps
    (subst Q count grown))

-- the tables with a block more, one by one
pub block-made : (w : World) (m : ModuleId) (a : AstId) (c : Map) (k : Crate) (b : BlockId) (root : ModuleId) (map : Map) (maps : Maps) (places : List Place)
    → k ≡ crate_in w m → b ≡ next_block w → root ≡ next_module w → map ≡ fresh_block c k b m a root → crate_map w k ≡ Some c
    → places ≡ w.places ++ (record { map = record { krate = k; block = Some b }; index = 0; parent = None }) ∷ [] → maps ≡ maps_and (maps_of w) map
    → record (with_maps w maps) { places = places } ≡ with_block w m a
block-made w m a c k b root map maps places kk bb rr is there p q =
    (λ i. record (with_maps w (q i)) { places = p i })
    ∙ (λ i. record (with_maps w (maps_and (maps_of w) (is i))) { places = w.places ++ (record { map = record { krate = k; block = Some b }; index = 0; parent = None }) ∷ [] })
    ∙ (λ i. record w { block_maps = w.block_maps ++ fresh_block c (kk i) (bb i) m a (rr i) ∷ []; places = w.places ++ (record { map = record { krate = kk i; block = Some (bb i) }; index = 0; parent = None }) ∷ [] })
    ∙ sym (ap (λ o. option_map_or (with_block_of w (crate_in w m) m a) o w) (ap (crate_map w) (sym kk) ∙ there))
