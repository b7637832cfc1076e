-- Every result of path resolution: its status is no only where nothing was found, and a segment that it leaves
-- unresolved is one of the path's, and never the first.
use Rattle.std.proofs.Common.{◌≡◌, ◌≤◌, ◌<◌, ◌+◌, ℕ, suc, max, Bool, true, false, List, [], ◌∷◌, length, map, slice_get, cond, Option, Some, None, refl, sym, subst, arith}
use Rattle.std.specs.Option.{ForSome, option_map_or}
use Rattle.std.proofs.lemmas.List.{length-map}
use Rattle.dm_base.specs.declared.ids.EnumVariantId.{EnumVariantId}
use Rattle.dm_base.specs.declared.ids.Crate.{Crate}
use Rattle.dm_base.specs.declared.ids.ModuleId.{ModuleId}
use Rattle.dm_base.specs.declared.fields_shape.FieldsShape.{FieldsShape}
use Rattle.dm_base.specs.declared.imports.ImportOrExternCrate.{ImportOrExternCrate}
use Rattle.dm_base.specs.declared.item_ids.ModuleDefId.{ModuleDefId}
use Rattle.dm_base.specs.declared.item_ids.ModuleDefId.TheVariants as def
use Rattle.dm_base.specs.declared.item_ids.AdtId.TheVariants as adt
use Rattle.dm_base.specs.declared.per_ns.Item.{Item}
use Rattle.dm_base.specs.declared.per_ns.PerNs.{PerNs}
use Rattle.dm_base.specs.declared.mod_path.PathKind.{PathKind}
use Rattle.dm_base.specs.declared.mod_path.PathKind.TheVariants as kind
use Rattle.dm_base.specs.PerNs.{overlay}
use Rattle.dm_base.specs.Names.{Name}
use Rattle.dm_base.specs.Overlays.{greatest}
use Rattle.dm_base.specs.Tree.{Tree, home, outer, crate_of, in_block_map, same_map}
use Rattle.dm_def_map.specs.Maps.{LocalMap}
use Rattle.dm_maps.specs.Readings.{Setting, Reading, setting_of, read}
use Rattle.dm_maps.specs.World.{World}
use Rattle.hir_def_map.specs.declared.path_resolution.question.Ask.{Ask}
use Rattle.hir_def_map.specs.declared.path_resolution.result.ReachedFixedPoint.{ReachedFixedPoint}
use Rattle.hir_def_map.specs.declared.path_resolution.result.ReachedFixedPoint.TheVariants.{Yes, No}
use Rattle.hir_def_map.specs.declared.path_resolution.result.ResolvePathResult.{ResolvePathResult}
use Rattle.hir_def_map.specs.Answers.{nothing_no, nothing_yes, reached, stopped, variant_answer, yes_in_block, either_yes, over_answer, merged}
use Rattle.hir_def_map.specs.Laws.{IsAnswer}
use Rattle.hir_def_map.specs.declared.path_resolution.place.Place.{Place}
use Rattle.hir_def_map.specs.declared.path_resolution.place.Place.TheVariants.{In, Preludes}
use Rattle.hir_def_map.specs.Paths.{is_empty, at_variant, stop, enter, root_item, from_root, from_super, by_first_segment, missed, by_2015_rule, layers, seen_from, single}
use Rattle.hir_def_map.specs.Walk.{Stand, starting, crossed, through, walk}
use Rattle.hir_def_map.proofs.WalkLemmas.{walk-stop}
use Rattle.hir_def_map.proofs.StopLemmas.{enter-stop}
use Rattle.hir_def_map.proofs.LayerLemmas.{single_by, single-kind}

is-no : (x : ReachedFixedPoint) → x ≡ Yes → x ≡ No → ⊥
is-no x y n = let f : ⊥ = cc in f

abbrev Inner : ℕ → ℕ → Type 0
Inner n i = (1 ≤ i) × (i < n)

of-none : (n : ℕ) → ForSome None (Inner n)
of-none n = λ x e. cc

of-some : (n i : ℕ) → Inner n i → ForSome (Some i) (Inner n)
of-some n i h = λ x e. let same : i ≡ x = cc in subst (Inner n) same h

-- an answer of status yes that leaves no segment
whole-law : (n : ℕ) (a : ResolvePathResult) → a.reached_fixedpoint ≡ Yes → a.segment_index ≡ None → IsAnswer n a
whole-law n a y none = record { unsettled = λ e. absurd (is-no a.reached_fixedpoint y e); index = subst (λ o. ForSome o (Inner n)) (sym none) (of-none n) }

pub nothing_no-law : (n : ℕ) → IsAnswer n nothing_no
nothing_no-law n = record { unsettled = λ e. refl; index = of-none n }

pub nothing_yes-law : (n : ℕ) → IsAnswer n nothing_yes
nothing_yes-law n = whole-law n nothing_yes refl refl

stopped-law : (n : ℕ) (i : Item ModuleDefId ImportOrExternCrate) (j : ℕ) → 1 ≤ j → j < n → IsAnswer n (stopped i j)
stopped-law n i j one small = record { unsettled = λ e. absurd (is-no Yes refl e); index = of-some n j (one, small) }

crossed-law : (n : ℕ) (d : Bool) (a : ResolvePathResult) → IsAnswer n a → IsAnswer n (crossed d a)
crossed-law n false a h = h
crossed-law n true a h = record { unsettled = λ e. absurd (is-no Yes refl e); index = h.index }

variant-law : (n : ℕ) (i : Item ModuleDefId ImportOrExternCrate) (j : ℕ) (v : Option (EnumVariantId × FieldsShape)) (is_last : Bool) → 1 ≤ j → j < n → IsAnswer n (at_variant i j v is_last)
variant-law n i j None is_last one small = stopped-law n i j one small
variant-law n i j (Some v) true one small = whole-law n (variant_answer i v) refl refl
variant-law n i j (Some v) false one small = nothing_no-law n

-- a walk with a segment behind it
walk-law : (t : Tree) (n : ℕ) (a : Stand) (pos : ℕ) (S : List Reading) → 1 ≤ pos → pos + length S ≡ n → IsAnswer n (walk t a pos S)
walk-law t n a pos [] one count = crossed-law n a.differing (reached a.here) (whole-law n (reached a.here) refl refl)
walk-law t n a pos (s ∷ S) one count = by a.here.types (λ b. walk-law t n b (pos + 1) S (omega arith) (omega arith))
  where
    small : pos < n
    small = omega arith

    Holds : PerNs → Type 0
    Holds z = IsAnswer n (walk t (record a { here = z }) pos (s ∷ S))

    by_def : (i : Item ModuleDefId ImportOrExternCrate) (c : ModuleDefId) → ((b : Stand) → IsAnswer n (walk t b (pos + 1) S)) → Holds (record a.here { types = Some (record i { def = c }) })
    by_def i (def.ModuleId m) rest = rest (through t (record a { here = record a.here { types = Some (record i { def = def.ModuleId m }) } }) m s)
    by_def i (def.AdtId (adt.EnumId e)) rest = crossed-law n a.differing _ (variant-law n (record i { def = def.AdtId (adt.EnumId e) }) pos (s.variant e) (is_empty S) one small)
    by_def i (def.AdtId c) rest = crossed-law n a.differing _ (stopped-law n (record i { def = def.AdtId c }) pos one small)
    by_def i c rest = crossed-law n a.differing _ (stopped-law n (record i { def = c }) pos one small)

    by : (o : Option (Item ModuleDefId ImportOrExternCrate)) → ((b : Stand) → IsAnswer n (walk t b (pos + 1) S)) → Holds (record a.here { types = o })
    by None rest = crossed-law n a.differing nothing_no (nothing_no-law n)
    by (Some i) rest = by_def i i.def rest

-- what stops behind a first segment
pub stop-law : (t : Tree) (f : ModuleId) (x : PerNs) (S : List Reading) → IsAnswer (suc (length S)) (stop (enter t) t f x 1 S)
stop-law t f x S =
    let a = starting f x in
    subst (IsAnswer (suc (length S))) (walk-stop t a 1 S) (walk-law t (suc (length S)) a 1 S (omega arith) (omega arith))

-- what stops behind no segment, from a module
pub root-law : (t : Tree) (f m : ModuleId) (S : List Reading) → IsAnswer (length S) (stop (enter t) t f (root_item m) 0 S)
root-law t f m [] = whole-law 0 (reached (root_item m)) refl refl
root-law t f m (s ∷ S) =
    let a = starting f (root_item m) in
    subst (IsAnswer (suc (length S))) (walk-stop t a 0 (s ∷ S)) (walk-law t (suc (length S)) (through t a m s) 1 S (omega arith) (omega arith))

yes_in_block-law : (n : ℕ) (b : Bool) (a : ResolvePathResult) → IsAnswer n a → IsAnswer n (yes_in_block b a)
yes_in_block-law n b a h = record { unsettled = λ e. (λ i. record (h.unsettled (open-of a.reached_fixedpoint _ e) i) { reached_fixedpoint = e i }); index = h.index }
  where
    open-of : (x y : ReachedFixedPoint) → either_yes x y ≡ No → x ≡ No
    open-of Yes y e = e
    open-of No y e = refl

greatest-law : (n : ℕ) (x y : Option ℕ) → ForSome x (Inner n) → ForSome y (Inner n) → ForSome (greatest x y) (Inner n)
greatest-law n None y h k = k
greatest-law n (Some i) None h k = h
greatest-law n (Some i) (Some j) h k =
    let a : 1 ≤ i = (h i refl).0 in
    let b : i < n = (h i refl).1 in
    let c : j < n = (k j refl).1 in
    let least : 1 ≤ max i j = omega arith in
    let most : max i j < n = omega arith in
    of-some n (max i j) (least, most)

pub over-law : (n : ℕ) (a b : ResolvePathResult) → IsAnswer n a → IsAnswer n b → IsAnswer n (over_answer a b)
over-law n a b h k = record {
  unsettled = λ e. (λ i. over_answer (h.unsettled (upper a.reached_fixedpoint b.reached_fixedpoint e) i) (k.unsettled (lower a.reached_fixedpoint b.reached_fixedpoint e) i));
  index = greatest-law n a.segment_index b.segment_index h.index k.index;
}
  where
    upper : (x y : ReachedFixedPoint) → either_yes x y ≡ No → x ≡ No
    upper Yes y e = e
    upper No y e = refl

    lower : (x y : ReachedFixedPoint) → either_yes x y ≡ No → y ≡ No
    lower Yes y e = absurd (is-no Yes refl e)
    lower No y e = e

enter-law : (t : Tree) (m : ModuleId) (S : List Reading) → IsAnswer (length S) (enter t m S)
enter-law t m S = subst (IsAnswer (length S)) (sym (enter-stop t m S)) (yes_in_block-law (length S) (in_block_map t (home t m)) _ (root-law t (home t m) (home t m) S))

module _ (w : Setting) (q : Ask) (S : List Reading) where
  root_of-law : (m : ModuleId) (k : Crate) → IsAnswer (length S) (from_root w m k S)
  root_of-law m k = by (w.root_of k)
    where
      by : (o : Option ModuleId) → IsAnswer (length S) (option_map_or (λ r. stop (enter w.tree) w.tree m (root_item r) 0 S) o nothing_yes)
      by None = nothing_yes-law (length S)
      by (Some r) = root-law w.tree m r S

  super-law : (m : ModuleId) (k : ℕ) → IsAnswer (length S) (from_super w.tree m k S)
  super-law m k = by (slice_get (outer w.tree m) k)
    where
      through_map : (o : ModuleId) (b : Bool) → IsAnswer (length S) (cond b (stop (enter w.tree) w.tree m (root_item o) 0 S) (enter w.tree o S))
      through_map o true = root-law w.tree m o S
      through_map o false = enter-law w.tree o S

      by : (o : Option ModuleId) → IsAnswer (length S) (elim o [ None ↦ nothing_yes | Some x ↦ cond (same_map (w.tree.map_of x) (w.tree.map_of m)) (stop (enter w.tree) w.tree m (root_item x) 0 S) (enter w.tree x S) ])
      by None = nothing_yes-law (length S)
      by (Some x) = through_map x (same_map (w.tree.map_of x) (w.tree.map_of m))

first-law : (w : Setting) (q : Ask) (p : Place) (S : List Reading) → IsAnswer (length S) (by_first_segment w q p S)
first-law w q p [] = nothing_yes-law 0
first-law w q p (s ∷ S) = by (missed q (by_2015_rule w q p) (overlay (layers w q p s (is_empty S))))
  where
    by : (b : Bool) → IsAnswer (suc (length S)) (cond b nothing_no (stop (enter w.tree) w.tree (seen_from p) (overlay (layers w q p s (is_empty S))) 1 S))
    by true = nothing_no-law (suc (length S))
    by false = stop-law w.tree (seen_from p) (overlay (layers w q p s (is_empty S))) S

-- what one place answers
single-law : (w : Setting) (q : Ask) (S : List Reading) (p : Place) → IsAnswer (length S) (single w q S p)
single-law w q S (In m) = subst (IsAnswer (length S)) (sym (single-kind w q S (In m) m q.kind refl refl)) (by q.kind)
  where
    by : (k : PathKind) → IsAnswer (length S) (single_by w q S m k)
    by kind.Crate = root_of-law w q S m (crate_of w.tree m)
    by (kind.DollarCrate c) = root_of-law w q S m c
    by (kind.Super n) = super-law w q S m n
    by kind.Plain = first-law w q (In m) S
    by kind.Abs = first-law w q (In m) S
single-law w q S (Preludes id f) = by q.kind
  where
    by : (k : PathKind) → IsAnswer (length S) (elim k [ kind.Crate ↦ nothing_yes | kind.DollarCrate c ↦ nothing_yes | kind.Super n ↦ nothing_yes | _ ↦ by_first_segment w q (Preludes id f) S ])
    by kind.Crate = nothing_yes-law (length S)
    by (kind.DollarCrate c) = nothing_yes-law (length S)
    by (kind.Super n) = nothing_yes-law (length S)
    by kind.Plain = first-law w q (Preludes id f) S
    by kind.Abs = first-law w q (Preludes id f) S

-- what all places answer
merged-law : (w : Setting) (q : Ask) (S : List Reading) (ps : List Place) → IsAnswer (length S) (merged (map (single w q S) ps))
merged-law w q S [] = nothing_no-law (length S)
merged-law w q S (p ∷ ps) = over-law (length S) (single w q S p) (merged (map (single w q S) ps)) (single-law w q S p) (merged-law w q S ps)

-- the same, along names
pub single-names : (w : World) (L : LocalMap) (q : Ask) (names : List Name) (p : Place) → IsAnswer (length names) (single (setting_of w) q (map (read w L) names) p)
single-names w L q names p =
    let S = map (read w L) names in
    subst (λ n. IsAnswer n (single (setting_of w) q S p)) (length-map names (read w L)) (single-law (setting_of w) q S p)

pub merged-names : (w : World) (L : LocalMap) (q : Ask) (names : List Name) (ps : List Place) → IsAnswer (length names) (merged (map (single (setting_of w) q (map (read w L) names)) ps))
merged-names w L q names ps =
    let S = map (read w L) names in
    subst (λ n. IsAnswer n (merged (map (single (setting_of w) q S) ps))) (length-map names (read w L)) (merged-law (setting_of w) q S ps)
