-- Invariants of every world still hold with a module more.
use Rattle.std.proofs.Common.{◌≡◌, ◌<◌, ℕ, zero, suc, List, [], ◌∷◌, ◌++◌, Option, Some, None, length, map, set, slice_get, sym, ap, ◌∙◌, refl, subst, arith}
use Rattle.std.proofs.Math.ListN.{length-set}
use Rattle.std.specs.Option.{option_map, option_map_or}
use Rattle.std.proofs.lemmas.List.{map-set, map_push}
use Rattle.std.proofs.lemmas.Option.{slice_get_within, slice_get-map}
use Rattle.indexmap.specs.IndexMap.{set_value_at}
use Rattle.dm_maps.proofs.Ids.{BlockId, MapId, ModuleId, Name, Place}
use Rattle.dm_def_map.specs.Maps.{Map, Module, Modules, nth_module, put_child, with_child_at, map_with_child}
use Rattle.dm_maps.specs.Trees.{no_map, Outline, outline, IsPlaced, IsWorldOf, AreMaps, is_crate_id, is_block_id, map_id_in, numbered_outline}
use Rattle.dm_maps.proofs.EntryLemmas.{get-last, get-set_same, set-own}
use Rattle.dm_maps.proofs.GrowthLemmas.{longer, place_below, after, map_id_in-append, AreMaps-append, AreMaps-longer, Grows, Grows-same, Grows-longer, IsWorldOf-next}

-- ---- The outline of a map with a module more.

-- what a write leaves of an element stays
pub map-set_own : {X Y : Type 0} (f : X → Y) (xs : List X) (k : ℕ) (x y : X) → slice_get xs k ≡ Some x → f y ≡ f x → map f (set xs k y) ≡ map f xs
map-set_own f xs k x y at same =
    map-set f xs k y ∙ ap (set (map f xs) k) same ∙ set-own (map f xs) k (f x) (slice_get-map f xs k ∙ ap (option_map f) at)

abbrev pub entry : (ModuleId × Module) → ModuleId × Option ModuleId
entry e = (e.0, e.1.parent)

pub entries-set : (es : Modules) (i : ℕ) (d e : Module) → nth_module es i ≡ Some d → e.parent ≡ d.parent → map entry (set_value_at es i e) ≡ map entry es
entries-set [] i d e h p = refl
entries-set (x ∷ es) zero d e h p = let same : x.1 ≡ d = cc in ap (λ o. (x.0, o) ∷ map entry es) (p ∙ ap (λ (y : Module). y.parent) (sym same))
entries-set (x ∷ es) (suc i) d e h p = ap (λ l. entry x ∷ l) (entries-set es i d e h p)

entries-with_child_at : (es : Modules) (i : ℕ) (n : Name) (m : ModuleId) → map entry (with_child_at es i n m) ≡ map entry es
entries-with_child_at es i n m = by (nth_module es i) refl
  where
    by : (o : Option Module) → nth_module es i ≡ o → map entry (put_child es i o n m) ≡ map entry es
    by None h = refl
    by (Some d) h = entries-set es i d _ h refl

pub outline-map_with_child : (o : Map) (i : ℕ) (n : Name) (m : ModuleId) (d : Module) → outline (map_with_child o i n m d) ≡ longer (outline o) m d.parent
outline-map_with_child o i n m d =
    ap (λ es. record (outline o) { modules = es }) (entries-with_child_at (o.modules ++ (m, d) ∷ []) i n m ∙ map_push entry o.modules (m, d))

-- ---- With a module more below `q`, which stands at the place `at`, in a map of outline o.

module _ (ps : List Place) (cs bs : List Outline) (inside : List (Option ModuleId)) (n : ℕ) (w : IsWorldOf ps cs bs inside n)
    (q : ModuleId) (at : Place) (is : slice_get ps q.0 ≡ Some at) (room : length ps < 4294967295) (o : Outline) (of_id : o.id ≡ at.map) where
  within : q.0 < length ps
  within = slice_get_within ps q.0 at is

  new_placed : IsPlaced (ps ++ place_below o q ∷ []) inside (length ps) (place_below o q)
  new_placed = record {
    parent = λ r e.
        let same : q ≡ r = cc in
        let map_is : map_id_in (ps ++ place_below o q ∷ []) q ≡ o.id = map_id_in-append ps (place_below o q ∷ []) q within ∙ ap (λ x. option_map_or (λ (p : Place). p.map) x no_map) is ∙ sym of_id in
        subst (λ (x : ModuleId). (x.0 < length ps) × (map_id_in (ps ++ place_below o q ∷ []) x ≡ o.id)) same (within, map_is);
    block = λ b e.
        let h = (w.placed q at is).block b (ap (λ (id : MapId). id.block) (sym of_id) ∙ e) in record {
          container = h.container;
          is = h.is;
          smaller = let l = h.smaller in let k = within in omega arith;
          same_crate = ap (λ (id : MapId). id.krate) (map_id_in-append ps (place_below o q ∷ []) h.container (let l = h.smaller in let k = within in omega arith)) ∙ h.same_crate ∙ ap (λ (id : MapId). id.krate) (sym of_id);
        };
  }

  module _ (ds es : List Outline) (crates : Grows cs ds) (blocks : Grows bs es)
      (there : numbered_outline ds es at.map ≡ Some (longer o (after ps) (Some q)))
      (crate_maps : AreMaps is_crate_id (ps ++ place_below o q ∷ []) ds) (block_maps : AreMaps is_block_id (ps ++ place_below o q ∷ []) es)
      (crate_count : length ds ≡ length cs) (block_count : length es ≡ length bs) where
    longer_world : IsWorldOf (ps ++ place_below o q ∷ []) ds es inside n
    longer_world =
        let crates_before = w.crate_count in
        let blocks_before = w.block_count in
        let its_crate = w.in_crates q at is in
        let same : at.map.krate.0 ≡ o.id.krate.0 = ap (λ (id : MapId). id.krate.0) (sym of_id) in
        IsWorldOf-next ps cs bs ds es inside inside n n (place_below o q) room w (record {
          placed = new_placed;
          stands = record {
            there = longer o (after ps) (Some q);
            is_map = ap (numbered_outline ds es) of_id ∙ there;
            of_id = refl;
            is_module = get-last o.modules (after ps, Some q);
          };
          in_crate = omega arith;
          keeps = λ b c h. h;
          crates = crates;
          blocks = blocks;
          crate_maps = crate_maps;
          block_maps = block_maps;
          externs = w.externs ∙ sym crate_count;
          more_crates = omega arith;
          crate_count = omega arith;
          block_count = omega arith;
        })

  -- in a crate's map, and in a block's
  pub longer_crate : at.map.block ≡ None → slice_get cs at.map.krate.0 ≡ Some o → IsWorldOf (ps ++ place_below o q ∷ []) (set cs at.map.krate.0 (longer o (after ps) (Some q))) bs inside n
  longer_crate none there =
      let k = at.map.krate.0 in
      let ds = set cs k (longer o (after ps) (Some q)) in
      let found : numbered_outline ds bs at.map ≡ Some (longer o (after ps) (Some q)) =
      (λ i. elim (none i) [ None ↦ slice_get ds k | Some b ↦ slice_get bs b.0 ]) ∙ get-set_same cs k o (longer o (after ps) (Some q)) there in
      longer_world ds bs (Grows-longer cs k o (after ps) (Some q) there) (Grows-same bs) found (AreMaps-longer is_crate_id ps cs k o q there w.crates) (AreMaps-append is_block_id ps (place_below o q ∷ []) bs w.blocks) (length-set cs k (longer o (after ps) (Some q))) refl

  pub longer_block : (b : BlockId) → at.map.block ≡ Some b → slice_get bs b.0 ≡ Some o → IsWorldOf (ps ++ place_below o q ∷ []) cs (set bs b.0 (longer o (after ps) (Some q))) inside n
  longer_block b some there =
      let k = b.0 in
      let es = set bs k (longer o (after ps) (Some q)) in
      let found : numbered_outline cs es at.map ≡ Some (longer o (after ps) (Some q)) =
      (λ i. elim (some i) [ None ↦ slice_get cs at.map.krate.0 | Some x ↦ slice_get es x.0 ]) ∙ get-set_same bs k o (longer o (after ps) (Some q)) there in
      longer_world cs es (Grows-same cs) (Grows-longer bs k o (after ps) (Some q) there) found (AreMaps-append is_crate_id ps (place_below o q ∷ []) cs w.crates) (AreMaps-longer is_block_id ps bs k o q there w.blocks) refl (length-set bs k (longer o (after ps) (Some q)))
