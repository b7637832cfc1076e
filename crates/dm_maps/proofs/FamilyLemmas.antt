-- The families of maps stay so, whatever grows or changes.
use Rattle.std.proofs.Common.{◌≡◌, ◌∙◌, ℕ, zero, suc, Bool, true, false, cond, nat_eq, List, [], ◌∷◌, ◌++◌, Option, None, Some, map, set, slice_get, refl, sym, ap, subst}
use Rattle.std.specs.List.{AllByRecursion}
use Rattle.std.specs.Option.{option_map, option_and_then}
use Rattle.std.proofs.lemmas.List.{map_push}
use Rattle.std.proofs.lemmas.Option.{slice_get-map}
use Rattle.indexmap.specs.IndexMap.{insert_entry, set_value_at}
use Rattle.dm_maps.proofs.Ids.{AstId, Crate, Edition, EditionedFileId, MapId, ModuleId, Name, Place, same_name}
use Rattle.dm_def_map.specs.declared.map_change.MapChange.{MapChange}
use Rattle.dm_def_map.specs.declared.map_change.MapChange.TheVariants.{Prelude, MacroUse, MacroDef, Helper, Diagnostic}
use Rattle.dm_def_map.specs.MapChanges.{changed}
use Rattle.dm_scope.specs.Scope.{Scope}
use Rattle.dm_def_map.specs.CrateData.{CrateData}
use Rattle.dm_def_map.specs.Maps.{Map, Module, Modules, nth_module, put_scope, put_child, map_with_child, map_with_scope, with_child, with_new_child, with_scope_at}
use Rattle.dm_maps.specs.Maps.{Maps, map_at, maps_with}
use Rattle.dm_maps.specs.World.{World, crate_map, maps_of, numbered_map}
use Rattle.dm_maps.specs.Build.{with_crate, with_child_at_place, next_module, next_place}
use Rattle.dm_maps.specs.BuildBlocks.{with_block_of}
use Rattle.dm_maps.specs.BuildCrateData.{map_with_shared, with_shared}
use Rattle.dm_maps.specs.BuildMaps.{with_map}
use Rattle.dm_maps.specs.Family.{IsParent, AreParents, common, HaveFamilies, AreFamilies, IsFamily}
use Rattle.dm_maps.specs.Trees.{Outline, outline, parent_in, IsWorld}
use Rattle.dm_maps.proofs.AllLemmas.{all-get, all-push, all-set, all-weaker, map-all}
use Rattle.dm_maps.proofs.BlockListLemmas.{world-numbered}
use Rattle.dm_maps.proofs.EntryLemmas.{get-append, get-last}
use Rattle.dm_maps.proofs.MapsKept.{given-keeps}
use Rattle.dm_maps.proofs.MapWrites.{put-cases, with-cases}
use Rattle.dm_maps.proofs.ModuleGrowth.{entry, map-set_own}
use Rattle.dm_maps.proofs.WorldGrowth.{numbered-outlines}

-- ---- Parents, where places come after theirs.

parent-append : (ps qs : List Place) (c q : ModuleId) → parent_in ps c ≡ Some q → parent_in (ps ++ qs) c ≡ Some q
parent-append ps qs c q h = by (slice_get ps c.0) refl h
  where
    by : (o : Option Place) → slice_get ps c.0 ≡ o → option_and_then (λ (p : Place). p.parent) o ≡ Some q → parent_in (ps ++ qs) c ≡ Some q
    by None e g = cc
    by (Some p) e g = ap (option_and_then (λ (x : Place). x.parent)) (get-append ps qs c.0 p e) ∙ g

parents-append : (ps qs : List Place) (ms : List Map) → AllByRecursion (AreParents ps) ms → AllByRecursion (AreParents (ps ++ qs)) ms
parents-append ps qs ms h =
    all-weaker (AreParents ps) (AreParents (ps ++ qs))
    (λ m g. all-weaker (IsParent ps) (IsParent (ps ++ qs)) (λ e k. all-weaker (λ (x : Name × ModuleId). parent_in ps x.1 ≡ Some e.0) (λ x. parent_in (ps ++ qs) x.1 ≡ Some e.0) (λ x r. parent-append ps qs x.1 e.0 r) e.1.children k) m.modules g)
    ms h

places-append : (ps qs : List Place) (cs bs : List Map) → HaveFamilies ps cs bs → HaveFamilies (ps ++ qs) cs bs
places-append ps qs cs bs h = record { of_crates = parents-append ps qs cs h.of_crates; of_blocks = parents-append ps qs bs h.of_blocks; outermost = h.outermost; shared = h.shared }

-- ---- The modules of a map, of which one is written.

module _ (ps : List Place) where
  all-insert : (q : ModuleId) (es : List (Name × ModuleId)) (n : Name) (m : ModuleId) → AllByRecursion (λ x. parent_in ps x.1 ≡ Some q) es → parent_in ps m ≡ Some q → AllByRecursion (λ x. parent_in ps x.1 ≡ Some q) (insert_entry same_name es n m)
  all-insert q [] n m h g = (g, tt)
  all-insert q (e ∷ es) n m h g = by (same_name n e.0) (all-insert q es n m h.1 g)
    where
      by : (b : Bool) → AllByRecursion (λ x. parent_in ps x.1 ≡ Some q) (insert_entry same_name es n m) → AllByRecursion (λ x. parent_in ps x.1 ≡ Some q) (cond b ((e.0, m) ∷ es) (e ∷ insert_entry same_name es n m))
      by true rest = (g, h.1)
      by false rest = (h.0, rest)

  -- with the children that it had
  put-kept : (es : Modules) (i : ℕ) (d e : Module) → nth_module es i ≡ Some d → e.children ≡ d.children → AllByRecursion (IsParent ps) es → AllByRecursion (IsParent ps) (set_value_at es i e)
  put-kept [] i d e at same h = tt
  put-kept (x ∷ es) zero d e at same h =
      let one : x.1 ≡ d = cc in
      (subst (λ l. AllByRecursion (λ y. parent_in ps y.1 ≡ Some x.0) l) (sym (same ∙ ap (λ (y : Module). y.children) (sym one))) h.0, h.1)
  put-kept (x ∷ es) (suc i) d e at same h = (h.0, put-kept es i d e at same h.1)

  -- with a child more
  put-more : (es : Modules) (i : ℕ) (d : Module) (q : ModuleId) (r : Option ModuleId) (n : Name) (m : ModuleId) → nth_module es i ≡ Some d → slice_get (map entry es) i ≡ Some (q, r) → parent_in ps m ≡ Some q
      → AllByRecursion (IsParent ps) es → AllByRecursion (IsParent ps) (set_value_at es i (with_child d n m))
  put-more [] i d q r n m at is up h = tt
  put-more (x ∷ es) zero d q r n m at is up h =
      let one : x.1 ≡ d = cc in
      let pair : entry x ≡ (q, r) = cc in
      let key : q ≡ x.0 = sym (ap (λ (y : ModuleId × Option ModuleId). y.0) pair) in
      let own : AllByRecursion (λ y. parent_in ps y.1 ≡ Some x.0) d.children = subst (λ (y : Module). AllByRecursion (λ z. parent_in ps z.1 ≡ Some x.0) y.children) one h.0 in
      (all-insert x.0 d.children n m own (up ∙ ap Some key), h.1)
  put-more (x ∷ es) (suc i) d q r n m at is up h = (h.0, put-more es i d q r n m at is up h.1)

  new-child : (es : Modules) (i : ℕ) (q : ModuleId) (r : Option ModuleId) (n : Name) (m : ModuleId) (d : Module) → slice_get (map entry es) i ≡ Some (q, r) → d.children ≡ [] → parent_in ps m ≡ Some q
      → AllByRecursion (IsParent ps) es → AllByRecursion (IsParent ps) (with_new_child es i n m d)
  new-child es i q r n m d is none up h = by (nth_module more i) refl
    where
      more : Modules
      more = es ++ (m, d) ∷ []

      longer : AllByRecursion (IsParent ps) more
      longer = all-push (IsParent ps) es (m, d) h (subst (λ l. AllByRecursion (λ y. parent_in ps y.1 ≡ Some m) l) (sym none) tt)

      there : slice_get (map entry more) i ≡ Some (q, r)
      there = ap (λ l. slice_get l i) (map_push entry es (m, d)) ∙ get-append (map entry es) (entry (m, d) ∷ []) i (q, r) is

      by : (o : Option Module) → nth_module more i ≡ o → AllByRecursion (IsParent ps) (put_child more i o n m)
      by None e = longer
      by (Some x) e = put-more more i x q r n m e there up longer

  scoped : (es : Modules) (i : ℕ) (s : Scope) → AllByRecursion (IsParent ps) es → AllByRecursion (IsParent ps) (with_scope_at es i s)
  scoped es i s h = by (nth_module es i) refl
    where
      by : (o : Option Module) → nth_module es i ≡ o → AllByRecursion (IsParent ps) (put_scope es i o s)
      by None e = h
      by (Some d) e = put-kept es i d (record d { scope = s }) e refl h

-- ---- The maps, of which one is written, and with one more.

module _ (ps : List Place) (cs bs : List Map) (h : HaveFamilies ps cs bs) where
  crate-set : (k : ℕ) (x y : Map) → slice_get cs k ≡ Some x → AreParents ps y → y.parent ≡ x.parent → common y ≡ common x → HaveFamilies ps (set cs k y) bs
  crate-set k x y at children around same = record {
    of_crates = all-set (AreParents ps) cs k y h.of_crates children;
    of_blocks = h.of_blocks;
    outermost = all-set (λ (m : Map). m.parent ≡ None) cs k y h.outermost (around ∙ all-get (λ (m : Map). m.parent ≡ None) cs k x h.outermost at);
    shared = subst (λ l. AllByRecursion (λ (m : Map). slice_get l m.id.krate.0 ≡ Some (common m)) bs) (sym (map-set_own common cs k x y at same)) h.shared;
  }

  block-set : (k : ℕ) (x y : Map) → slice_get bs k ≡ Some x → AreParents ps y → y.id ≡ x.id → common y ≡ common x → HaveFamilies ps cs (set bs k y)
  block-set k x y at children id same = record {
    of_crates = h.of_crates;
    of_blocks = all-set (AreParents ps) bs k y h.of_blocks children;
    outermost = h.outermost;
    shared = all-set (λ (m : Map). slice_get (map common cs) m.id.krate.0 ≡ Some (common m)) bs k y h.shared
        (ap (λ (i : MapId). slice_get (map common cs) i.krate.0) id ∙ all-get (λ (m : Map). slice_get (map common cs) m.id.krate.0 ≡ Some (common m)) bs k x h.shared at ∙ ap Some (sym same));
  }

  crate-push : (y : Map) → AreParents ps y → y.parent ≡ None → HaveFamilies ps (cs ++ y ∷ []) bs
  crate-push y children none = record {
    of_crates = all-push (AreParents ps) cs y h.of_crates children;
    of_blocks = h.of_blocks;
    outermost = all-push (λ (m : Map). m.parent ≡ None) cs y h.outermost none;
    shared = all-weaker (λ (m : Map). slice_get (map common cs) m.id.krate.0 ≡ Some (common m)) (λ m. slice_get (map common (cs ++ y ∷ [])) m.id.krate.0 ≡ Some (common m))
        (λ m g. ap (λ l. slice_get l m.id.krate.0) (map_push common cs y) ∙ get-append (map common cs) (common y ∷ []) m.id.krate.0 (common m) g) bs h.shared;
  }

  block-push : (y : Map) → AreParents ps y → slice_get (map common cs) y.id.krate.0 ≡ Some (common y) → HaveFamilies ps cs (bs ++ y ∷ [])
  block-push y children same = record {
    of_crates = h.of_crates;
    of_blocks = all-push (AreParents ps) bs y h.of_blocks children;
    outermost = h.outermost;
    shared = all-push (λ (m : Map). slice_get (map common cs) m.id.krate.0 ≡ Some (common m)) bs y h.shared same;
  }

-- with f of one, which leaves its children rightly listed, and all that a family has alike
have-with : (ps : List Place) (ms : Maps) (h : HaveFamilies ps ms.crates ms.blocks) (id : MapId) (f : Map → Map) → ((x : Map) → map_at ms id ≡ Some x → AreParents ps x → AreParents ps (f x))
    → ((x : Map) → (f x).id ≡ x.id) → ((x : Map) → (f x).parent ≡ x.parent) → ((x : Map) → common (f x) ≡ common x) → HaveFamilies ps (maps_with ms id f).crates (maps_with ms id f).blocks
have-with ps ms h id f children same_id around same =
    let P : Maps → Type 0 = λ all. HaveFamilies ps all.crates all.blocks in
    with-cases ms id f P h
    (λ x e. put-cases ms id x (f x) P e
    (λ none g. crate-set ps ms.crates ms.blocks h id.krate.0 x (f x) g (children x e (all-get (AreParents ps) ms.crates id.krate.0 x h.of_crates g)) (around x) (same x))
    (λ b some g. block-set ps ms.crates ms.blocks h b.0 x (f x) g (children x e (all-get (AreParents ps) ms.blocks b.0 x h.of_blocks g)) (same_id x) (same x)))

pub families : (ps : List Place) (cs bs : List Map) → AreFamilies ps cs bs → HaveFamilies ps cs bs
unfolding AreFamilies
families ps cs bs h = h

-- what leaves all that a family has alike
record KeepsFamily (f : Map → Map) : Type 0 where
  id : (m : Map) → (f m).id ≡ m.id
  modules : (m : Map) → (f m).modules ≡ m.modules
  around : (m : Map) → (f m).parent ≡ m.parent
  same : (m : Map) → common (f m) ≡ common m

KeepsFamily-changed : (change : MapChange) → KeepsFamily (changed change)
KeepsFamily-changed (Prelude p) = record { id = λ m. refl; modules = λ m. refl; around = λ m. refl; same = λ m. refl }
KeepsFamily-changed (MacroUse n e) = record { id = λ m. refl; modules = λ m. refl; around = λ m. refl; same = λ m. refl }
KeepsFamily-changed (MacroDef a d) = record { id = λ m. refl; modules = λ m. refl; around = λ m. refl; same = λ m. refl }
KeepsFamily-changed (Helper a x) = record { id = λ m. refl; modules = λ m. refl; around = λ m. refl; same = λ m. refl }
KeepsFamily-changed (Diagnostic d) = record { id = λ m. refl; modules = λ m. refl; around = λ m. refl; same = λ m. refl }

-- ---- The maps of a world.

module _ (w : World) (fam : IsFamily w) where
  before : HaveFamilies w.places w.crate_maps w.block_maps
  before = families w.places w.crate_maps w.block_maps fam

  -- a crate more
  pub IsFamily-crate : (e : Edition) (f : EditionedFileId) → IsFamily (with_crate w e f)
  unfolding AreFamilies
  IsFamily-crate e f =
      let more = w.places ++ _ ∷ [] in
      crate-push more w.crate_maps w.block_maps (places-append w.places _ w.crate_maps w.block_maps before) _ (tt, tt) refl

  -- a block more
  pub IsFamily-block : (k : Crate) (m : ModuleId) (a : AstId) (c : Map) → crate_map w k ≡ Some c → IsFamily (with_block_of w k m a c)
  unfolding AreFamilies
  IsFamily-block k m a c there =
      block-push _ w.crate_maps w.block_maps (places-append w.places _ w.crate_maps w.block_maps before) _ (tt, tt)
      (slice_get-map common w.crate_maps k.0 ∙ ap (option_map common) there)

  -- a map changed
  pub IsFamily-changed : (id : MapId) (change : MapChange) → IsFamily (with_map w id (changed change))
  unfolding AreFamilies
  IsFamily-changed id change =
      let keeps = KeepsFamily-changed change in
      have-with w.places (maps_of w) before id (changed change) (λ x e g. subst (λ es. AllByRecursion (IsParent w.places) es) (sym (keeps.modules x)) g) keeps.id keeps.around keeps.same

  -- a scope written
  pub IsFamily-scoped : (id : MapId) (i : ℕ) (s : Scope) → IsFamily (with_map w id (λ m. map_with_scope m i s))
  unfolding AreFamilies
  IsFamily-scoped id i s = have-with w.places (maps_of w) before id (λ m. map_with_scope m i s) (λ x e g. scoped w.places x.modules i s g) (λ x. refl) (λ x. refl) (λ x. refl)

  module _ (is : IsWorld w) where
    -- a module more below q, which stands at the place p
    pub IsFamily-child : (q : ModuleId) (p : Place) (n : Name) (d : Module) → slice_get w.places q.0 ≡ Some p → d.children ≡ [] → IsFamily (with_child_at_place w q p n d)
    unfolding AreFamilies
    IsFamily-child q p n d at none = have-with more (maps_of w) grown p.map (λ x. map_with_child x p.index n m d) (λ x e g. children x (shape x e) g) (λ x. refl) (λ x. refl) (λ x. refl)
      where
        more : List Place
        more = w.places ++ next_place w p.map q ∷ []

        m : ModuleId
        m = next_module w

        grown : HaveFamilies more w.crate_maps w.block_maps
        grown = places-append w.places (next_place w p.map q ∷ []) w.crate_maps w.block_maps before

        up : parent_in more m ≡ Some q
        up = ap (option_and_then (λ (x : Place). x.parent)) (get-last w.places (next_place w p.map q))

        there : Outline
        there = (is.stands q p at).there

        children : (x : Map) → outline x ≡ there → AreParents more x → AreParents more (map_with_child x p.index n m d)
        children x same g = new-child more x.modules p.index q p.parent n m d (ap (λ (o : Outline). slice_get o.modules p.index) same ∙ (is.stands q p at).is_module) none up g

        shape : (x : Map) → numbered_map w p.map ≡ Some x → outline x ≡ there
        shape x e = let same : Some (outline x) ≡ Some there = ap (option_map outline) (sym e) ∙ sym (numbered-outlines w p.map) ∙ (is.stands q p at).is_map in cc

    -- new data of a crate
    pub IsFamily-shared : (k : Crate) (d : CrateData) → AreFamilies w.places (with_shared k d w.crate_maps) (with_shared k d w.block_maps)
    unfolding AreFamilies
    IsFamily-shared k d = record {
      of_crates = map-all (AreParents w.places) given w.crate_maps (all-weaker (AreParents w.places) (λ m. AreParents w.places (given m)) children w.crate_maps before.of_crates);
      of_blocks = map-all (AreParents w.places) given w.block_maps (all-weaker (AreParents w.places) (λ m. AreParents w.places (given m)) children w.block_maps before.of_blocks);
      outermost = map-all (λ (m : Map). m.parent ≡ None) given w.crate_maps (all-weaker (λ (m : Map). m.parent ≡ None) (λ m. (given m).parent ≡ None) around w.crate_maps before.outermost);
      shared = map-all (λ (m : Map). slice_get (map common new) m.id.krate.0 ≡ Some (common m)) given w.block_maps
          (all-weaker (λ (m : Map). slice_get (map common w.crate_maps) m.id.krate.0 ≡ Some (common m)) (λ m. slice_get (map common new) (given m).id.krate.0 ≡ Some (common (given m))) alike w.block_maps before.shared);
    }
      where
        given : Map → Map
        given = map_with_shared k d

        new : List Map
        new = map given w.crate_maps

        one : Bool → Map → Map
        one b m = cond b (record m { shared = d }) m

        children : (m : Map) → AreParents w.places m → AreParents w.places (given m)
        children m g = subst (λ es. AllByRecursion (IsParent w.places) es) (sym (given-keeps (λ (x : Map). x.modules) (λ x e. refl) k d m)) g

        around : (m : Map) → m.parent ≡ None → (given m).parent ≡ None
        around m g = given-keeps (λ (x : Map). x.parent) (λ x e. refl) k d m ∙ g

        both : (b : Bool) (c m : Map) → common c ≡ common m → common (one b c) ≡ common (one b m)
        both true c m g = ap (λ (x : Edition × CrateData). (x.0, d)) g
        both false c m g = g

        alike : (m : Map) → slice_get (map common w.crate_maps) m.id.krate.0 ≡ Some (common m) → slice_get (map common new) (given m).id.krate.0 ≡ Some (common (given m))
        alike m g = by (slice_get w.crate_maps m.id.krate.0) refl (sym (slice_get-map common w.crate_maps m.id.krate.0) ∙ g)
          where
            by : (o : Option Map) → slice_get w.crate_maps m.id.krate.0 ≡ o → option_map common o ≡ Some (common m) → slice_get (map common new) (given m).id.krate.0 ≡ Some (common (given m))
            by None e f = cc
            by (Some c) e f =
                let same : common c ≡ common m = cc in
                let b = nat_eq m.id.krate.0 k.0 in
                let its : given c ≡ one b c = ap (λ j. one (nat_eq j k.0) c) (world-numbered w is m.id.krate.0 c e) in
                ap (slice_get (map common new)) (given-keeps (λ (x : Map). x.id.krate.0) (λ x y. refl) k d m)
                ∙ slice_get-map common new m.id.krate.0
                ∙ ap (option_map common) (slice_get-map given w.crate_maps m.id.krate.0 ∙ ap (option_map given) e)
                ∙ ap (λ x. Some (common x)) its
                ∙ ap Some (both b c m same)
