-- The lists of the blocks of crates: they grow with the crates and blocks, and stay as maps change.
use Rattle.std.proofs.Common.{◌≡◌, ◌<◌, ◌+◌, ◌-◌, ◌∙◌, ℕ, List, [], ◌∷◌, ◌++◌, Option, None, Some, inl, inr, length, take, set, slice_get, refl, sym, ap, subst, arith, length-append}
use Rattle.std.proofs.Math.ListN.{length-set}
use Rattle.std.proofs.Math.Seq.{set-set}
use Rattle.std.proofs.lemmas.List.{length-map}
use Rattle.std.proofs.lemmas.Option.{slice_get-map}
use Rattle.std.specs.Option.{option_map, option_map_or}
use Rattle.dm_maps.proofs.Ids.{BlockId, Crate, MapId}
use Rattle.dm_def_map.specs.CrateData.{CrateData}
use Rattle.dm_def_map.specs.Maps.{Map}
use Rattle.dm_maps.specs.BlockLists.{entry_with, crates_of, list_at, HasBlock, AreGathered, AreNumbered}
use Rattle.dm_maps.specs.BuildCrateData.{map_with_shared, with_shared}
use Rattle.dm_maps.specs.Maps.{maps_with}
use Rattle.dm_maps.specs.Trees.{outline, IsWorld}
use Rattle.dm_maps.specs.World.{World, maps_of}
use Rattle.dm_maps.proofs.EntryLemmas.{take-push, set-own, get-push, get-append, get-last, get-set_same, at-set}
use Rattle.dm_maps.proofs.GrowthLemmas.{get-within}
use Rattle.dm_maps.proofs.MapWrites.{put-cases, with-cases}
use Rattle.dm_maps.proofs.MapsKept.{all-given-keep}
use Rattle.dm_maps.proofs.ModuleGrowth.{map-set_own}

-- a block taken from the list that it was added to
pub listed-back : {X : Type 0} (ls : List (List X)) (k : ℕ) (b : X) → entry_with (entry_with ls k (λ l. l ++ b ∷ [])) k (λ l. take (length l - 1) l) ≡ ls
listed-back {X} ls k b = by (slice_get ls k) refl
  where
    back : List (List X) → Option (List X) → List (List X)
    back ms o = option_map_or (λ l. set ms k (take (length l - 1) l)) o ms

    by : (o : Option (List X)) → slice_get ls k ≡ o → entry_with (option_map_or (λ l. set ls k (l ++ b ∷ [])) o ls) k (λ l. take (length l - 1) l) ≡ ls
    by None e = ap (back ls) e
    by (Some l) e =
        let more = l ++ b ∷ [] in
        ap (back (set ls k more)) (get-set_same ls k l more e)
        ∙ set-set ls k more (take (length more - 1) more)
        ∙ ap (set ls k) (take-push l b)
        ∙ set-own ls k l e

-- ---- The lists as the world grows.

-- with a crate more
pub AreGathered-crate : (n : ℕ) (ks : List Crate) (ls : List (List BlockId)) → AreGathered n ks ls → AreGathered (n + 1) ks (ls ++ [] ∷ [])
AreGathered-crate n ks ls is = record {
  count = let h = is.count in omega (arith, length-append ls ([] ∷ []));
  each = λ b k e. by b k (slice_get ls k.0) refl (is.each b k e);
}
  where
    by : (b : ℕ) (k : Crate) (o : Option (List BlockId)) → slice_get ls k.0 ≡ o → HasBlock (option_map_or (λ l. l) o []) b → HasBlock (list_at (ls ++ [] ∷ []) k.0) b
    by b k None e h = let lost = h.1 in cc
    by b k (Some l) e h = subst (λ o. HasBlock (option_map_or (λ x. x) o []) b) (sym (get-append ls ([] ∷ []) k.0 l e)) h

-- with a block more in crate k
pub AreGathered-block : (n : ℕ) (ks : List Crate) (ls : List (List BlockId)) (k : Crate) → k.0 < n → AreGathered n ks ls → AreGathered n (ks ++ k ∷ []) (entry_with ls k.0 (λ l. l ++ (record { 0 = length ks }) ∷ []))
AreGathered-block n ks ls k less is = subst (AreGathered n (ks ++ k ∷ [])) (sym now) (record { count = length-set ls k.0 more ∙ is.count; each = each })
  where
    new : BlockId
    new = record { 0 = length ks }

    at : (l : List BlockId) × (slice_get ls k.0 ≡ Some l)
    at = get-within ls k.0 (subst (λ i. k.0 < i) (sym is.count) less)

    more : List BlockId
    more = at.0 ++ new ∷ []

    now : entry_with ls k.0 (λ l. l ++ new ∷ []) ≡ set ls k.0 more
    now = ap (λ o. option_map_or (λ l. set ls k.0 (l ++ new ∷ [])) o ls) at.1

    there : list_at (set ls k.0 more) k.0 ≡ more
    there = ap (λ o. option_map_or (λ l. l) o []) (get-set_same ls k.0 at.0 more at.1)

    stays : (b : ℕ) (q : Crate) → HasBlock (list_at ls q.0) b → HasBlock (list_at (set ls k.0 more) q.0) b
    stays b q h = elim (at-set ls k.0 q.0 at.0 more at.1) [
      | inl same ↦ subst (λ o. HasBlock (option_map_or (λ l. l) o []) b) (sym same) h
      | inr own ↦
          let old : HasBlock at.0 b = subst (λ o. HasBlock (option_map_or (λ l. l) o []) b) own.1 h in
          subst (λ o. HasBlock (option_map_or (λ l. l) o []) b) (sym own.2) (old.0, get-append at.0 (new ∷ []) old.0 _ old.1)
    ]

    each : (b : ℕ) (q : Crate) → slice_get (ks ++ k ∷ []) b ≡ Some q → HasBlock (list_at (set ls k.0 more) q.0) b
    each b q e = elim (get-push ks k b q e) [
      | inl g ↦ stays b q (is.each b q g)
      | inr g ↦
          let P : ℕ → Crate → Type 0 = λ i c. HasBlock (list_at (set ls k.0 more) c.0) i in
          subst (P b) g.1 (subst (λ i. P i k) (sym g.0) (subst (λ l. HasBlock l (length ks)) (sym there) (length at.0, get-last at.0 new)))
    ]

-- ---- The lists as maps change.

module _ (w : World) (ls : List (List BlockId)) (is : AreGathered (length w.crate_maps) (crates_of w.block_maps) ls) where
  -- where each map stays its crate's
  pub AreGathered-with : (id : MapId) (f : Map → Map) → ((m : Map) → (f m).id ≡ m.id) → AreGathered (length (maps_with (maps_of w) id f).crates) (crates_of (maps_with (maps_of w) id f).blocks) ls
  AreGathered-with id f kept =
      with-cases (maps_of w) id f (λ ms. AreGathered (length ms.crates) (crates_of ms.blocks) ls) is
      (λ x e. put-cases (maps_of w) id x (f x) (λ ms. AreGathered (length ms.crates) (crates_of ms.blocks) ls) e
      (λ none g. subst (λ n. AreGathered n (crates_of w.block_maps) ls) (sym (length-set w.crate_maps id.krate.0 (f x))) is)
      (λ b some g. subst (λ ks. AreGathered (length w.crate_maps) ks ls) (sym (map-set_own (λ (m : Map). m.id.krate) w.block_maps b.0 x (f x) g (ap (λ (i : MapId). i.krate) (kept x)))) is))

  -- new data of a crate
  pub AreGathered-sharing : (k : Crate) (d : CrateData) → AreGathered (length (with_shared k d w.crate_maps)) (crates_of (with_shared k d w.block_maps)) ls
  AreGathered-sharing k d =
      let Table : ℕ × List Crate → Type 0 = λ z. AreGathered z.0 z.1 ls in
      subst Table (λ i. (sym (length-map w.crate_maps (map_with_shared k d)) i, sym (all-given-keep (λ (m : Map). m.id.krate) (λ m e. refl) k d w.block_maps) i)) is

-- the map of each crate of a world is that of its number
pub world-numbered : (w : World) → IsWorld w → AreNumbered w.crate_maps
world-numbered w is j m e = ap (λ (id : MapId). id.krate.0) (is.crates j (outline m) (slice_get-map outline w.crate_maps j ∙ ap (option_map outline) e)).0
