-- A module, a crate or a block that a builder adds is there, and what was there stays.
use Rattle.std.proofs.Common.{◌≡◌, ◌<◌, ◌∙◌, ℕ, zero, suc, List, [], ◌∷◌, ◌++◌, Option, None, Some, length, map, slice_get, refl, sym, ap, subst, arith}
use Rattle.std.proofs.lemmas.List.{length-map}
use Rattle.std.specs.Option.{option_and_then, option_map, option_map_or}
use Rattle.dm_maps.proofs.Ids.{AstId, BlockId, Crate, Edition, EditionedFileId, MapId, ModuleId, Name, Place}
use Rattle.dm_scope.specs.Scope.{no_scope}
use Rattle.dm_def_map.specs.Maps.{Map, Module, Modules, nth_module, map_with_child}
use Rattle.dm_maps.specs.Added.{IsAddedModule, IsAddedCrate, IsAddedBlock}
use Rattle.dm_maps.specs.Build.{fresh_crate, next_crate, next_module, next_place, with_child_at_place, with_child_of, with_crate}
use Rattle.dm_maps.specs.BuildBlocks.{crate_in, fresh_block, next_block, with_block, with_block_of}
use Rattle.dm_maps.specs.ScopeTables.{scope_at_place}
use Rattle.dm_maps.specs.Trees.{map_id_in, no_map, outlines, outline, IsWorld}
use Rattle.dm_maps.specs.World.{World, maps_of, numbered_map}
use Rattle.dm_maps.proofs.EntryLemmas.{get-last}
use Rattle.dm_maps.proofs.WorldFacts.{crate-within}
use Rattle.dm_maps.proofs.GrowthLemmas.{get-within}
use Rattle.dm_maps.proofs.GrownLemmas.{widens, at-end, end-among, more-push, end-past, pushed-none, through, scope_in, scope_by, scopes-child, added, count-with}

-- ---- A module more.

-- where it is put there is nothing yet
next-none : (w : World) (id : MapId) (q : ModuleId) → scope_at_place w (next_place w id q) ≡ no_scope
next-none w id q = by (numbered_map w id)
  where
    by : (o : Option Map) → scope_by o (option_map_or (λ (x : Map). length x.modules) o 0) ≡ no_scope
    by None = refl
    by (Some x) = past x.modules
      where
        past : (es : Modules) → scope_in es (length es) ≡ no_scope
        past [] = refl
        past (e ∷ es) = past es

child-added : (w : World) (q : ModuleId) (n : Name) (d : Module) → q.0 < length w.places → d.scope ≡ no_scope → IsAddedModule w (with_child_of w q n d) (map_id_in w.places q) (Some q) (next_module w)
child-added w q n d known none =
    let at = get-within w.places q.0 known in
    let v = with_child_at_place w q at.0 n d in
    let p = next_place w at.0.map q in
    let own : at.0.map ≡ map_id_in w.places q = sym (ap (λ o. option_map_or (λ (x : Place). x.map) o no_map) at.1) in
    let count = count-with (maps_of w) at.0.map (λ x. map_with_child x at.0.index n (next_module w) d) in
    let more = widens w v (more-push w.places p) (omega arith) refl refl refl refl in
    subst (λ (u : World). IsAddedModule w u (map_id_in w.places q) (Some q) (next_module w)) (sym (ap (λ o. option_map_or (λ x. with_child_at_place w q x n d) o w) at.1))
    (subst (λ id. IsAddedModule w v id (Some q) (next_module w)) own
    (added w v p refl (λ x. scopes-child w at.0 n (next_module w) d x none) (next-none w at.0.map q) more))

pub added-child : (w v : World) (q : ModuleId) (n : Name) (d : Module) (m : ModuleId) → q.0 < length w.places → d.scope ≡ no_scope → v ≡ with_child_of w q n d → m ≡ next_module w → IsAddedModule w v (map_id_in w.places q) (Some q) m
added-child w v q n d m known none made number =
    subst (λ (x : World × ModuleId). IsAddedModule w x.0 (map_id_in w.places q) (Some q) x.1) (λ i. (sym made i, sym number i)) (child-added w q n d known none)

-- ---- A crate more, and a block.

-- the map of a root binds nothing
root-none : (m : ModuleId) (d : Module) (j : ℕ) → d.scope ≡ no_scope → scope_in ((m, d) ∷ []) j ≡ no_scope
root-none m d zero e = e
root-none m d (suc j) e = refl

-- nor does a map more of such a root
maps-none : (ms : List Map) (x : Map) (j k : ℕ) → scope_in x.modules j ≡ no_scope → scope_by (slice_get (ms ++ x ∷ []) k) j ≡ scope_by (slice_get ms k) j
maps-none ms x j k none =
    through (λ (y : Map). nth_module y.modules j) (λ (d : Module). d.scope) (slice_get (ms ++ x ∷ []) k)
    ∙ pushed-none (λ (y : Map). scope_in y.modules j) ms x k none
    ∙ sym (through (λ (y : Map). nth_module y.modules j) (λ (d : Module). d.scope) (slice_get ms k))

crate-added : (w : World) (e : Edition) (f : EditionedFileId) → IsAddedCrate w (with_crate w e f) (next_crate w)
crate-added w e f =
    let v = with_crate w e f in
    let x = fresh_crate (next_crate w) e f (next_module w) in
    let p : Place = record { map = record { krate = next_crate w; block = None }; index = 0; parent = None } in
    let more = widens w v (more-push w.places p) (more-push w.crate_maps x) refl refl refl refl in record {
      known = end-among w.crate_maps x;
      fresh = end-past (length w.crate_maps);
      is_root = ap (option_map (λ (y : Map). y.root)) (get-last w.crate_maps x);
      root = added w v p refl same (ap (λ o. scope_by o 0) (at-end w.crate_maps)) more;
    }
  where
    same : (q : Place) → scope_at_place (with_crate w e f) q ≡ scope_at_place w q
    same q = by q.map.block
      where
        by : (b : Option BlockId) → scope_by (elim b [ None ↦ slice_get (w.crate_maps ++ fresh_crate (next_crate w) e f (next_module w) ∷ []) q.map.krate.0 | Some y ↦ slice_get w.block_maps y.0 ]) q.index
            ≡ scope_by (elim b [ None ↦ slice_get w.crate_maps q.map.krate.0 | Some y ↦ slice_get w.block_maps y.0 ]) q.index
        by None = maps-none w.crate_maps (fresh_crate (next_crate w) e f (next_module w)) q.index q.map.krate.0 (root-none (next_module w) _ q.index refl)
        by (Some y) = refl

pub added-crate : (w v : World) (e : Edition) (f : EditionedFileId) (k : Crate) → v ≡ with_crate w e f → k ≡ next_crate w → IsAddedCrate w v k
added-crate w v e f k made number = subst (λ (x : World × Crate). IsAddedCrate w x.0 x.1) (λ i. (sym made i, sym number i)) (crate-added w e f)

module _ (w : World) (m : ModuleId) (a : AstId) (c : Map) where
  abbrev of_block : Map
  of_block = fresh_block c (crate_in w m) (next_block w) m a (next_module w)

  same : (q : Place) → scope_at_place (with_block_of w (crate_in w m) m a c) q ≡ scope_at_place w q
  same q = by q.map.block
    where
      by : (b : Option BlockId) → scope_by (elim b [ None ↦ slice_get w.crate_maps q.map.krate.0 | Some y ↦ slice_get (w.block_maps ++ of_block ∷ []) y.0 ]) q.index
          ≡ scope_by (elim b [ None ↦ slice_get w.crate_maps q.map.krate.0 | Some y ↦ slice_get w.block_maps y.0 ]) q.index
      by None = refl
      by (Some y) = maps-none w.block_maps of_block q.index y.0 (root-none (next_module w) _ q.index refl)

  added-block_of : IsAddedBlock w (with_block_of w (crate_in w m) m a c) m (next_block w)
  added-block_of =
      let v = with_block_of w (crate_in w m) m a c in
      let p : Place = record { map = record { krate = crate_in w m; block = Some (next_block w) }; index = 0; parent = None } in
      let more = widens w v (more-push w.places p) (omega arith) refl refl refl refl in record {
        known = end-among w.block_maps of_block;
        fresh = end-past (length w.block_maps);
        container = ap (option_and_then (λ x. x)) (container-last w.block_maps);
        is_root = ap (option_map (λ (y : Map). y.root)) (get-last w.block_maps of_block);
        root = added w v p refl same (ap (λ o. scope_by o 0) (at-end w.block_maps)) more;
      }
    where
      container-last : (ms : List Map) → slice_get (map (λ (x : Map). x.parent) (ms ++ of_block ∷ [])) (length ms) ≡ Some (Some m)
      container-last [] = refl
      container-last (x ∷ xs) = container-last xs

-- the crate of a module has a map
block-added : (w : World) (m : ModuleId) (a : AstId) → IsWorld w → m.0 < length w.places → IsAddedBlock w (with_block w m a) m (next_block w)
block-added w m a is known =
    let c = get-within w.crate_maps (crate_in w m).0 (crate-within w is m known) in
    subst (λ (v : World). IsAddedBlock w v m (next_block w)) (sym (ap (λ o. option_map_or (with_block_of w (crate_in w m) m a) o w) c.1)) (added-block_of w m a c.0)

pub added-block : (w v : World) (m : ModuleId) (a : AstId) (b : BlockId) → IsWorld w → m.0 < length w.places → v ≡ with_block w m a → b ≡ next_block w → IsAddedBlock w v m b
added-block w v m a b is known made number = subst (λ (x : World × BlockId). IsAddedBlock w x.0 m x.1) (λ i. (sym made i, sym number i)) (block-added w m a is known)
