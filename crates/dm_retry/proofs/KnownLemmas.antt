-- What an import resolves to is known to the world.
use Rattle.std.proofs.Common.{◌≡◌, ◌<◌, ◌&&◌, ℕ, zero, suc, Bool, true, false, cond, not, List, [], ◌∷◌, ◌++◌, Option, None, Some, IsSome, IfSome, IsTrue, ap, refl, arith, is_none, is_some, length, slice_get}
use Rattle.std.specs.Option.{option_and_then, option_map, option_map_or}
use Rattle.std.proofs.lemmas.Bool.{ltb-true}
use Rattle.dm_base.specs.declared.ids.ModuleId.{ModuleId}
use Rattle.dm_base.specs.declared.imports.ImportOrExternCrate.{ImportOrExternCrate}
use Rattle.dm_base.specs.declared.imports.ImportOrGlob.{ImportOrGlob}
use Rattle.dm_base.specs.declared.item_ids.MacroId.{MacroId}
use Rattle.dm_base.specs.declared.item_ids.ModuleDefId.{ModuleDefId}
use Rattle.dm_base.specs.declared.per_ns.Item.{Item}
use Rattle.dm_base.specs.declared.per_ns.PerNs.{PerNs}
use Rattle.dm_base.specs.declared.ids.MapId.{MapId}
use Rattle.dm_base.specs.declared.visibility.Visibility.{Visibility}
use Rattle.dm_base.specs.declared.visibility.Visibility.TheVariants.{Module, PubCrate, Public}
use Rattle.dm_base.specs.PerNs.{is_empty, seen_as, seen_as_item}
use Rattle.dm_base.specs.Tree.{Tree, IsKnown, same_module, same_crate, crate_of, is_ancestor}
use Rattle.dm_base.specs.Visibility.{NamesKnown, both_lie_in, either_explicit, min_of}
use Rattle.dm_maps.specs.declared.check.held.HeldId.{HeldId}
use Rattle.dm_maps.specs.declared.check.held.HeldId.TheVariants as held
use Rattle.dm_maps.specs.Holding.{def_holds, vis_holds, import_holds, value_import_holds, type_holds, value_holds, macro_holds, res_holds, path_holds}
use Rattle.dm_maps.specs.Pushes.{push_holds}
use Rattle.dm_maps.specs.declared.place.Place.{Place}
use Rattle.dm_maps.specs.ItemHomes.{homes_of}
use Rattle.dm_maps.specs.Known.{knows, KnowsAll}
use Rattle.dm_maps.specs.Trees.{tree_of}
use Rattle.dm_maps.specs.World.{World}
use Rattle.hir_def_map.specs.declared.path_resolution.result.ResolvePathResult.{ResolvePathResult}
use Rattle.dm_maps.specs.KnownLaws.{knows-append, knows-left, knows-middle, knows-right, macros-known, types-known, values-known, vis_known}
use Rattle.dm_retry.specs.Known.{parts}
use Rattle.dm_retry.specs.declared.import_kind.ImportKind.{ImportKind}
use Rattle.dm_retry.specs.declared.import_kind.ImportKind.TheVariants as kinds
use Rattle.dm_retry.specs.Kinds.{by_kind, is_foreign, narrowed, narrowed_item, re_exported, types_alone}
use Rattle.dm_retry.specs.Rounds.{Pending, resolved_items, by_import, to_push, given, meaning}

-- known items of each namespace, together
together : (w : World) (x : PerNs) → KnowsAll w (option_map_or type_holds x.types []) → KnowsAll w (option_map_or value_holds x.values []) → KnowsAll w (option_map_or macro_holds x.macros []) → KnowsAll w (res_holds x)
together w x ts vs ms =
    knows-append w (option_map_or type_holds x.types [] ++ option_map_or value_holds x.values []) (option_map_or macro_holds x.macros [])
    (knows-append w (option_map_or type_holds x.types []) (option_map_or value_holds x.values []) ts vs) ms

module _ (w : World) (v : Visibility) (seen : KnowsAll w (vis_holds v)) where
  -- an item under another visibility: its definition, the visibility, its import
  under : (ds ws is : List HeldId) → KnowsAll w (ds ++ ws ++ is) → KnowsAll w (ds ++ vis_holds v ++ is)
  under ds ws is k = knows-append w (ds ++ vis_holds v) is (knows-append w ds (vis_holds v) (knows-left w ds ws (knows-left w (ds ++ ws) is k)) seen) (knows-right w (ds ++ ws) is k)

  type-seen : (o : Option (Item ModuleDefId ImportOrExternCrate)) → KnowsAll w (option_map_or type_holds o []) → KnowsAll w (option_map_or type_holds (seen_as_item v o) [])
  type-seen None k = tt
  type-seen (Some x) k = under (def_holds x.def) (vis_holds x.vis) (option_map_or import_holds x.import []) k

  value-seen : (o : Option (Item ModuleDefId ImportOrGlob)) → KnowsAll w (option_map_or value_holds o []) → KnowsAll w (option_map_or value_holds (seen_as_item v o) [])
  value-seen None k = tt
  value-seen (Some x) k = under (def_holds x.def) (vis_holds x.vis) (option_map_or value_import_holds x.import []) k

  macro-seen : (o : Option (Item MacroId ImportOrExternCrate)) → KnowsAll w (option_map_or macro_holds o []) → KnowsAll w (option_map_or macro_holds (seen_as_item v o) [])
  macro-seen None k = tt
  macro-seen (Some x) k = under (held.Macro x.def ∷ []) (vis_holds x.vis) (option_map_or import_holds x.import []) k

  res-seen : (x : PerNs) → KnowsAll w (res_holds x) → KnowsAll w (res_holds (seen_as v x))
  res-seen x k =
      together w (seen_as v x) (type-seen x.types (types-known w x k)) (value-seen x.values (values-known w x k)) (macro-seen x.macros (macros-known w x k))

-- ---- Re-exports

module _ (w : World) where
  -- what a visibility names that may not be there, or else the own one
  abbrev Seen : Visibility → Option Visibility → Type 0
  Seen own o = KnowsAll w (vis_holds (option_map_or (λ v. v) o own))

  either : (own : Visibility) (b : Bool) (o p : Option Visibility) → Seen own o → Seen own p → Seen own (cond b o p)
  either own true o p k l = k
  either own false o p k l = l

  -- the less permissive of two visibilities is one of them
  least-known : (t : Tree) (map : MapId) (own v : Visibility) → KnowsAll w (vis_holds own) → KnowsAll w (vis_holds v) → Seen own (min_of t map own v)
  least-known t map Public v k l = l
  least-known t map (PubCrate a) Public k l = k
  least-known t map (PubCrate a) (PubCrate b) k l = either (PubCrate a) (same_crate a b) (Some (PubCrate a)) None k k
  least-known t map (PubCrate a) (Module m e) k l = either (PubCrate a) (same_crate (crate_of t m) a) (Some (Module m e)) None l k
  least-known t map (Module m e) Public k l = k
  least-known t map (Module m e) (PubCrate b) k l = either (Module m e) (same_crate (crate_of t m) b) (Some (Module m e)) None k k
  least-known t map (Module a x) (Module b y) k l =
      let own = Module a x in
      either own (same_module a b) (Some (Module a (either_explicit x y))) _ k
      (either own (not (both_lie_in t map a b)) None _ k
      (either own (is_ancestor t b a) (Some (Module a x)) _ k
      (either own (is_ancestor t a b) (Some (Module b y)) None l k)))

  module _ (t : Tree) (m : ModuleId) (v : Visibility) (seen : KnowsAll w (vis_holds v)) where
    type-narrowed : (o : Option (Item ModuleDefId ImportOrExternCrate)) → KnowsAll w (option_map_or type_holds o []) → KnowsAll w (option_map_or type_holds (narrowed_item t m v o) [])
    type-narrowed None k = tt
    type-narrowed (Some x) k = by (is_foreign t (crate_of t m) x.vis)
      where
        by : (b : Bool) → KnowsAll w (option_map_or type_holds (cond b None (Some (record x { vis = narrowed t m v x.vis }))) [])
        by true = tt
        by false =
            let is = option_map_or import_holds x.import [] in
            under w (narrowed t m v x.vis) (least-known t (t.map_of m) x.vis v (knows-middle w (def_holds x.def) (vis_holds x.vis) is k) seen) (def_holds x.def) (vis_holds x.vis) is k

    value-narrowed : (o : Option (Item ModuleDefId ImportOrGlob)) → KnowsAll w (option_map_or value_holds o []) → KnowsAll w (option_map_or value_holds (narrowed_item t m v o) [])
    value-narrowed None k = tt
    value-narrowed (Some x) k = by (is_foreign t (crate_of t m) x.vis)
      where
        by : (b : Bool) → KnowsAll w (option_map_or value_holds (cond b None (Some (record x { vis = narrowed t m v x.vis }))) [])
        by true = tt
        by false =
            let is = option_map_or value_import_holds x.import [] in
            under w (narrowed t m v x.vis) (least-known t (t.map_of m) x.vis v (knows-middle w (def_holds x.def) (vis_holds x.vis) is k) seen) (def_holds x.def) (vis_holds x.vis) is k

    macro-narrowed : (o : Option (Item MacroId ImportOrExternCrate)) → KnowsAll w (option_map_or macro_holds o []) → KnowsAll w (option_map_or macro_holds (narrowed_item t m v o) [])
    macro-narrowed None k = tt
    macro-narrowed (Some x) k = by (is_foreign t (crate_of t m) x.vis)
      where
        by : (b : Bool) → KnowsAll w (option_map_or macro_holds (cond b None (Some (record x { vis = narrowed t m v x.vis }))) [])
        by true = tt
        by false =
            let is = option_map_or import_holds x.import [] in
            under w (narrowed t m v x.vis) (least-known t (t.map_of m) x.vis v (knows-middle w (held.Macro x.def ∷ []) (vis_holds x.vis) is k) seen) (held.Macro x.def ∷ []) (vis_holds x.vis) is k

    -- what an import brings of known items is known
    pub kind-known : (kind : ImportKind) (x : PerNs) → KnowsAll w (res_holds x) → KnowsAll w (res_holds (by_kind t m v kind x))
    kind-known kinds.Plain x k = res-seen w v seen x k
    kind-known kinds.Unnamed x k = res-seen w v seen x k
    kind-known kinds.TypeOnly x k = res-seen w v seen (types_alone x) (together w (types_alone x) (types-known w x k) tt tt)
    kind-known kinds.ReExport x k =
        together w (re_exported t m v x) (type-narrowed x.types (types-known w x k)) (value-narrowed x.values (values-known w x k)) (macro-narrowed x.macros (macros-known w x k))

-- What an import pushes, it may push: it is the world's, if the import's parts and the answer are.
pub given-known : (w : World) (p : Pending) (x : PerNs) → KnowsAll w (parts p) → KnowsAll w (res_holds x) → IfSome (given w p x) (λ y. KnowsAll w (push_holds p.origin y (by_import p)))
given-known w p x k l = by (is_empty (by_kind (tree_of w) p.origin p.visibility p.kind x))
  where
    y : PerNs
    y = by_kind (tree_of w) p.origin p.visibility p.kind x

    by : (b : Bool) → IfSome (cond b None (Some y)) (λ y. KnowsAll w (push_holds p.origin y (by_import p)))
    by true = tt
    by false = (k.0, (k.1.0, kind-known w (tree_of w) p.origin p.visibility (knows-right w (path_holds p.path.kind) (vis_holds p.visibility) k.1.1) p.kind x l))

-- its module, and the one that its visibility names, are the tree's
pub home-known : (w : World) (p : Pending) → KnowsAll w (parts p) → IsKnown (tree_of w) p.origin
unfolding tree_of
home-known w p k = k.0

pub vis-known : (w : World) (p : Pending) → KnowsAll w (parts p) → NamesKnown (tree_of w) p.visibility
vis-known w p k = vis_known w p.visibility (knows-right w (path_holds p.path.kind) (vis_holds p.visibility) k.1.1)

-- ---- The extern prelude of a module's crate

map-there : {A B : Type 0} (f : A → B) (xs : List A) (i : ℕ) → i < length xs → is_some (option_map f (slice_get xs i)) ≡ true
map-there f [] i lt = absurd (omega arith)
map-there f (x ∷ xs) zero lt = refl
map-there f (x ∷ xs) (suc i) lt = map-there f xs i (omega arith)

-- each module of the world has a crate
pub krate-there : (w : World) (m : ModuleId) → IsTrue (knows w (held.Module m)) → IsSome ((homes_of w).krate m)
unfolding homes_of
krate-there w m k = map-there (λ (p : Place). p.map.krate) w.places m.0 (ltb-true m.0 (length w.places) k)

-- ---- What is found

pub to_push-is : (w : World) (p : Pending) (a : ResolvePathResult) → a ≡ meaning w p → option_and_then (given w p) (resolved_items a) ≡ to_push w p
unfolding to_push
to_push-is w p a is = ap (λ b. option_and_then (given w p) (resolved_items b)) is

pub resolved_items-is : (a : ResolvePathResult) (x : PerNs) → resolved_items a ≡ Some x → a.resolved_def ≡ x
resolved_items-is a x is = by (is_none a.segment_index && not (is_empty a.resolved_def)) is
  where
    by : (b : Bool) → cond b (Some a.resolved_def) None ≡ Some x → a.resolved_def ≡ x
    by true e = cc
    by false e = cc
