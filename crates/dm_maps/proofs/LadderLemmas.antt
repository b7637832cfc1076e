-- The table of ladders (jump pointers) of a world: it grows with the modules, and says what their tree says.
use Rattle.std.proofs.Common.{◌≡◌, ◌<◌, ℕ, suc, Bool, true, false, List, [], ◌∷◌, ◌++◌, Option, Some, None, length, map, slice_get, nat_lt, refl, sym, ap, ◌∙◌}
use Rattle.std.specs.Option.{option_map, option_map_or, option_and_then, option_or}
use Rattle.std.proofs.lemmas.Bool.{ltb-true, lt-ltb}
use Rattle.std.proofs.lemmas.List.{map_push, length-map}
use Rattle.std.proofs.lemmas.Option.{slice_get-map}
use Rattle.dm_maps.proofs.Ids.{BlockId, Crate, MapId, ModuleId, Place}
use Rattle.dm_base.specs.Tree.{IsTree, IsKnown, containing, chain, is_among}
use Rattle.dm_maps.specs.Ancestry.{moves}
use Rattle.dm_maps.specs.JumpPointers.{tree_above}
use Rattle.dm_maps.proofs.ChainLemmas.{chains-agree, moves-agree, among-known}
use Rattle.dm_def_map.specs.CrateData.{CrateData}
use Rattle.dm_def_map.specs.Maps.{Map}
use Rattle.dm_maps.specs.BuildCrateData.{sharing}
use Rattle.dm_maps.specs.Ladders.{above_place, AreLaddered}
use Rattle.dm_maps.specs.Maps.{maps_with}
use Rattle.dm_maps.specs.Trees.{container_in, containers_of, tree_of, IsPlaced, IsWorld}
use Rattle.dm_maps.specs.World.{World, maps_of}
use Rattle.dm_maps.proofs.EntryLemmas.{get-last}
use Rattle.dm_maps.proofs.GrowthLemmas.{get-within, container_in-append}
use Rattle.dm_maps.proofs.MapWrites.{put-cases, with-cases}
use Rattle.dm_maps.proofs.MapsKept.{containers-shared}
use Rattle.dm_maps.proofs.ModuleGrowth.{map-set_own}

-- ---- The table as the world changes.

-- where the blocks stay in their modules
pub AreLaddered-same : (ps : List Place) (bs es : List Map) (ups : List (Option ModuleId)) → containers_of es ≡ containers_of bs → AreLaddered ps bs ups → AreLaddered ps es ups
AreLaddered-same ps bs es ups same is = record { each = is.each ∙ ap (λ cs. map (above_place cs) ps) (sym same) }

-- with a module more
pub AreLaddered-push : (ps : List Place) (bs : List Map) (ups : List (Option ModuleId)) (p : Place) → AreLaddered ps bs ups → AreLaddered (ps ++ p ∷ []) bs (ups ++ above_place (containers_of bs) p ∷ [])
AreLaddered-push ps bs ups p is =
    record { each = ap (λ us. us ++ above_place (containers_of bs) p ∷ []) is.each ∙ sym (map_push (above_place (containers_of bs)) ps p) }

-- what contains the module at a place stays, with a block more
above-stays : (cs ds : List (Option ModuleId)) (ps : List Place) (i : ℕ) (p : Place) → IsPlaced ps cs i p → above_place (cs ++ ds) p ≡ above_place cs p
above-stays cs ds ps i p placed = by p.map.block refl
  where
    by : (o : Option BlockId) → p.map.block ≡ o → option_or p.parent (container_in (cs ++ ds) p.map.block) ≡ option_or p.parent (container_in cs p.map.block)
    by None e = ap (λ b. option_or p.parent (container_in (cs ++ ds) b)) e ∙ sym (ap (λ b. option_or p.parent (container_in cs b)) e)
    by (Some b) e =
        let h = placed.block b e in
        ap (λ x. option_or p.parent (container_in (cs ++ ds) x)) e
        ∙ ap (option_or p.parent) (container_in-append cs ds b h.container h.is ∙ sym h.is)
        ∙ sym (ap (λ x. option_or p.parent (container_in cs x)) e)

map-same : {X Y : Type 0} (f g : X → Y) (xs : List X) → ((i : ℕ) (x : X) → slice_get xs i ≡ Some x → f x ≡ g x) → map f xs ≡ map g xs
map-same f g [] same = refl
map-same f g (x ∷ xs) same = (λ i. same 0 x refl i ∷ map-same f g xs (λ j y e. same (suc j) y e) i)

-- with a block more in module m, whose map c is the last, and whose root stands at the place p
pub AreLaddered-block : (w : World) → IsWorld w → (ups : List (Option ModuleId)) (p : Place) (c : Map) (m : ModuleId) → p.parent ≡ None → p.map.block ≡ Some (record { 0 = length w.block_maps }) → c.parent ≡ Some m
    → AreLaddered w.places w.block_maps ups → AreLaddered (w.places ++ p ∷ []) (w.block_maps ++ c ∷ []) (ups ++ Some m ∷ [])
AreLaddered-block w is ups p c m outmost of_block around table =
    let cs = containers_of w.block_maps in
    let ds = containers_of (w.block_maps ++ c ∷ []) in
    let grown : ds ≡ cs ++ Some m ∷ [] = map_push (λ (x : Map). x.parent) w.block_maps c ∙ ap (λ o. cs ++ o ∷ []) around in
    let stays : map (above_place cs) w.places ≡ map (above_place ds) w.places =
    sym (ap (λ xs. map (above_place xs) w.places) grown ∙ map-same (above_place (cs ++ Some m ∷ [])) (above_place cs) w.places (λ i x e. above-stays cs (Some m ∷ []) w.places i x (is.placed (record { 0 = i }) x e))) in
    let long : length cs ≡ length w.block_maps = length-map w.block_maps (λ (x : Map). x.parent) in
    let own : container_in ds (Some (record { 0 = length w.block_maps })) ≡ Some m =
    ap (λ xs. container_in xs (Some (record { 0 = length w.block_maps }))) grown
    ∙ ap (λ n. option_and_then (λ o. o) (slice_get (cs ++ Some m ∷ []) n)) (sym long)
    ∙ ap (option_and_then (λ o. o)) (get-last cs (Some m)) in
    let root : Some m ≡ above_place ds p = sym ((λ i. option_or (outmost i) (container_in ds (of_block i))) ∙ own) in
    record {
      each =
          ap (λ us. us ++ Some m ∷ []) (table.each ∙ stays)
          ∙ ap (λ o. map (above_place ds) w.places ++ o ∷ []) root
          ∙ sym (map_push (above_place ds) w.places p);
    }

-- what leaves the modules that contain blocks
pub containers-with : (w : World) (id : MapId) (f : Map → Map) → ((m : Map) → (f m).parent ≡ m.parent) → containers_of (maps_with (maps_of w) id f).blocks ≡ containers_of w.block_maps
containers-with w id f around =
    with-cases (maps_of w) id f (λ ms. containers_of ms.blocks ≡ containers_of w.block_maps) refl
    (λ x e. put-cases (maps_of w) id x (f x) (λ ms. containers_of ms.blocks ≡ containers_of w.block_maps) e (λ none g. refl) (λ b some g. map-set_own (λ (y : Map). y.parent) w.block_maps b.0 x (f x) g (around x)))

pub AreLaddered-with : (w : World) (ups : List (Option ModuleId)) (id : MapId) (f : Map → Map) → ((m : Map) → (f m).parent ≡ m.parent) → AreLaddered w.places w.block_maps ups → AreLaddered w.places (maps_with (maps_of w) id f).blocks ups
AreLaddered-with w ups id f around = AreLaddered-same w.places w.block_maps _ ups (containers-with w id f around)

pub AreLaddered-sharing : (w : World) (ups : List (Option ModuleId)) (k : Crate) (d : CrateData) → AreLaddered w.places w.block_maps ups → AreLaddered w.places (sharing w k d).block_maps ups
AreLaddered-sharing w ups k d = AreLaddered-same w.places w.block_maps _ ups (containers-shared k d w.block_maps)

-- ---- What the table says of the tree.

none-or : {X : Type 0} (o : Option X) → option_or o None ≡ o
none-or None = refl
none-or (Some x) = refl

inside-block : (cs : List (Option ModuleId)) (b : Option BlockId) → option_and_then (λ x. container_in cs (Some x)) b ≡ container_in cs b
inside-block cs None = refl
inside-block cs (Some b) = refl

module _ (w : World) (is : IsWorld w) (ups : List (Option ModuleId)) (table : AreLaddered w.places w.block_maps ups) where
  known-in : (m : ModuleId) → m.0 < length w.places → IsKnown (tree_of w) m
  unfolding tree_of
  known-in m less = lt-ltb m.0 (length w.places) less

  containing-listed : (m : ModuleId) → IsKnown (tree_of w) m → containing (tree_of w) m ≡ containing (tree_above ups) m
  unfolding tree_of
  containing-listed m known =
      let at = get-within w.places m.0 (ltb-true m.0 (length w.places) known) in
      let cs = containers_of w.block_maps in
      ap (λ (o : Option Place). option_or (option_and_then (λ p. p.parent) o) (option_and_then (λ b. container_in cs (Some b)) (option_map_or (λ p. p.map) o (record { krate = record { 0 = 0 }; block = None })).block)) at.1
      ∙ ap (option_or at.0.parent) (inside-block cs at.0.map.block)
      ∙ sym (ap (λ o. option_or (option_and_then (λ c. c) o) None) (ap (λ us. slice_get us m.0) table.each ∙ slice_get-map (above_place cs) w.places m.0 ∙ ap (option_map (above_place cs)) at.1) ∙ none-or (above_place cs at.0))

  tree : IsTree (tree_of w)
  unfolding tree_of
  tree = is.tree

  pub chain-listed : (a m : ModuleId) → m.0 < length w.places → is_among a (chain (tree_above ups) m) ≡ is_among a (chain (tree_of w) m)
  chain-listed a m less = ap (is_among a) (sym (chains-agree (tree_of w) (tree_above ups) tree containing-listed m (known-in m less)))

  pub moves-listed : (a m : ModuleId) → a.0 < length w.places → m.0 < length w.places → moves (tree_above ups) a m ≡ moves (tree_of w) a m
  moves-listed a m ancestor less = sym (moves-agree (tree_of w) (tree_above ups) tree containing-listed a m (known-in a ancestor) (known-in m less))

-- a module that is not the world's contains none of its modules
pub among-unknown : (w : World) → IsWorld w → (a m : ModuleId) → m.0 < length w.places → nat_lt a.0 (length w.places) ≡ false → is_among a (chain (tree_of w) m) ≡ false
unfolding tree_of
among-unknown w is a m less unknown = by (is_among a (chain (tree_of w) m)) refl
  where
    by : (b : Bool) → is_among a (chain (tree_of w) m) ≡ b → b ≡ false
    by true e = sym (among-known (tree_of w) is.tree a m (lt-ltb m.0 (length w.places) less) e) ∙ unknown
    by false e = refl
