-- What holds of a builder, of its tables and of what it keeps beside them, still holds as they grow and as maps change.
use Rattle.std.proofs.Common.{◌≡◌, ◌<◌, ℕ, List, [], ◌∷◌, ◌++◌, Option, None, Some, length, refl, sym, ap, subst, length-append}
use Rattle.std.proofs.lemmas.List.{map_push, length-map}
use Rattle.std.proofs.lemmas.Option.{slice_get_within}
use Rattle.std.specs.Option.{option_map_or}
use Rattle.dm_maps.proofs.Ids.{AstId, BlockId, Crate, Edition, EditionedFileId, MapId, ModuleId, Name, Place}
use Rattle.dm_scope.specs.Scope.{Scope}
use Rattle.dm_def_map.specs.CrateData.{CrateData}
use Rattle.dm_def_map.specs.declared.map_change.MapChange.{MapChange}
use Rattle.dm_def_map.specs.MapChanges.{changed}
use Rattle.dm_def_map.specs.Maps.{Map, Module, map_with_child, map_with_scope}
use Rattle.dm_maps.specs.BlockLists.{entry_with, crates_of, AreGathered}
use Rattle.dm_maps.specs.Build.{fresh_crate, next_crate, next_module, next_place, with_crate, with_child_of, with_child_at_place}
use Rattle.dm_maps.specs.BuildBlocks.{crate_in, fresh_block, next_block, with_block, with_block_of}
use Rattle.dm_maps.specs.BuildCrateData.{sharing}
use Rattle.dm_maps.specs.BuildMaps.{with_map}
use Rattle.dm_maps.specs.Built.{IsBuilt}
use Rattle.dm_maps.specs.Family.{IsFamily}
use Rattle.dm_maps.specs.Indexes.{AreIndexed}
use Rattle.dm_maps.specs.Trees.{Outline}
use Rattle.dm_maps.specs.World.{World, crate_map, place_of}
use Rattle.dm_maps.proofs.BlockListLemmas.{AreGathered-crate, AreGathered-block, AreGathered-with, AreGathered-sharing}
use Rattle.dm_maps.proofs.BlockMade.{IsWorld-block_of}
use Rattle.dm_maps.proofs.FamilyLemmas.{IsFamily-crate, IsFamily-block, IsFamily-child, IsFamily-changed, IsFamily-scoped, IsFamily-shared}
use Rattle.dm_maps.proofs.LadderLemmas.{AreLaddered-same, AreLaddered-push, AreLaddered-block, AreLaddered-with, AreLaddered-sharing, containers-with}
use Rattle.dm_maps.proofs.ListLemmas.{AreListed-push}
use Rattle.dm_maps.proofs.MapsKept.{Keeps, Keeps-changed, Keeps-scoped, IsWorld-with_map, IsWorld-sharing}
use Rattle.dm_maps.proofs.WorldGrowth.{IsWorld-at_place, IsWorld-crate}

-- a world, the table of its ladders, and the lists of the blocks of its crates
abbrev pub Holding : Type 0
Holding = World × List (Option ModuleId) × List (List BlockId)

abbrev pub IsKept : Holding → Type 0
IsKept z = IsBuilt z.0 × AreIndexed z.0.places z.0.crate_maps z.0.block_maps z.1 z.2

module _ (w : World) (ups : List (Option ModuleId)) (ls : List (List BlockId)) (is : IsKept (w, ups, ls)) where
  -- a map changed, but for its modules
  IsKept-with : (id : MapId) (f : Map → Map) → Keeps f → IsFamily (with_map w id f) → IsKept (with_map w id f, ups, ls)
  IsKept-with id f keeps family = (
    (IsWorld-with_map w id f keeps is.0.0, is.0.1, family),
    record {
      ladders = AreLaddered-with w ups id f keeps.around is.1.ladders;
      lists = AreGathered-with w ls is.1.lists id f (λ m. ap (λ (o : Outline). o.id) (keeps.shape m));
    },
  )

  pub IsKept-changed : (id : MapId) (change : MapChange) → IsKept (with_map w id (changed change), ups, ls)
  IsKept-changed id change = IsKept-with id (changed change) (Keeps-changed change) (IsFamily-changed w is.0.2 id change)

  -- a scope written
  pub IsKept-scoped : (id : MapId) (i : ℕ) (s : Scope) → IsKept (with_map w id (λ m. map_with_scope m i s), ups, ls)
  IsKept-scoped id i s = IsKept-with id (λ m. map_with_scope m i s) (Keeps-scoped i s) (IsFamily-scoped w is.0.2 id i s)

  -- new data of a crate
  pub IsKept-sharing : (k : Crate) (d : CrateData) → IsKept (sharing w k d, ups, ls)
  IsKept-sharing k d = (
    (IsWorld-sharing w k d is.0.0, is.0.1, IsFamily-shared w is.0.2 is.0.0 k d),
    record {
      ladders = AreLaddered-sharing w ups k d is.1.ladders;
      lists = AreGathered-sharing w ls is.1.lists k d;
    },
  )

  module _ (room : length w.places < 4294967295) where
    -- a crate more
    pub IsKept-crate : (e : Edition) (f : EditionedFileId) → IsKept (with_crate w e f, ups ++ None ∷ [], ls ++ [] ∷ [])
    IsKept-crate e f =
        let count = length-append w.crate_maps (fresh_crate (next_crate w) e f (next_module w) ∷ []) in (
          (IsWorld-crate w e f is.0.0 room, AreListed-push w.places _ w.uses w.items w.macros w.enums w.variants is.0.1, IsFamily-crate w is.0.2 e f),
          record {
            ladders = AreLaddered-push w.places w.block_maps ups _ is.1.ladders;
            lists = subst (λ n. AreGathered n (crates_of w.block_maps) (ls ++ [] ∷ [])) (sym count) (AreGathered-crate (length w.crate_maps) (crates_of w.block_maps) ls is.1.lists);
          },
        )

    -- a block more
    pub IsKept-block : (m : ModuleId) (a : AstId) (c : Map) → m.0 < length w.places → crate_map w (crate_in w m) ≡ Some c
        → IsKept (with_block w m a, ups ++ Some m ∷ [], entry_with ls (crate_in w m).0 (λ l. l ++ next_block w ∷ []))
    IsKept-block m a c known there =
        let k = crate_in w m in
        let new = fresh_block c k (next_block w) m a (next_module w) in
        let kept : IsKept (with_block_of w k m a c, ups ++ Some m ∷ [], entry_with ls k.0 (λ l. l ++ next_block w ∷ [])) = (
          (IsWorld-block_of w m a c is.0.0 known room, AreListed-push w.places _ w.uses w.items w.macros w.enums w.variants is.0.1, IsFamily-block w is.0.2 k m a c there),
          record {
            ladders = AreLaddered-block w is.0.0 ups _ new m refl refl refl is.1.ladders;
            lists =
                subst (λ (z : List Crate × ℕ). AreGathered (length w.crate_maps) z.0 (entry_with ls k.0 (λ l. l ++ (record { 0 = z.1 }) ∷ [])))
                (λ i. (sym (map_push (λ (x : Map). x.id.krate) w.block_maps new) i, length-map w.block_maps (λ (x : Map). x.id.krate) i))
                (AreGathered-block (length w.crate_maps) (crates_of w.block_maps) ls k (slice_get_within w.crate_maps k.0 c there) is.1.lists);
          },
        ) in
        subst (λ (v : World). IsKept (v, ups ++ Some m ∷ [], entry_with ls k.0 (λ l. l ++ next_block w ∷ []))) (sym (ap (λ o. option_map_or (with_block_of w k m a) o w) there)) kept

    -- a module more below q, which stands at the place p
    pub IsKept-child : (q : ModuleId) (p : Place) (n : Name) (d : Module) → place_of w q ≡ Some p → d.parent ≡ Some q → d.children ≡ [] → IsKept (with_child_of w q n d, ups ++ Some q ∷ [], ls)
    IsKept-child q p n d at up none =
        let f : Map → Map = λ map. map_with_child map p.index n (next_module w) d in
        let place = next_place w p.map q in
        let kept : IsKept (with_child_at_place w q p n d, ups ++ Some q ∷ [], ls) = (
          (IsWorld-at_place w q p n d is.0.0 at up room, AreListed-push w.places _ w.uses w.items w.macros w.enums w.variants is.0.1, IsFamily-child w is.0.2 is.0.0 q p n d at none),
          record {
            ladders = AreLaddered-same (w.places ++ place ∷ []) w.block_maps _ (ups ++ Some q ∷ []) (containers-with w p.map f (λ map. refl)) (AreLaddered-push w.places w.block_maps ups place is.1.ladders);
            lists = AreGathered-with w ls is.1.lists p.map f (λ map. refl);
          },
        ) in
        subst (λ (v : World). IsKept (v, ups ++ Some q ∷ [], ls)) (sym (ap (λ o. option_map_or (λ x. with_child_at_place w q x n d) o w) at)) kept
