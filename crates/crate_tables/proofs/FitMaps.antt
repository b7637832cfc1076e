-- The same where maps change: their preludes, their scopes, their modules, and the data that they share.
use Rattle.std.proofs.Common.{◌≡◌, ◌<◌, ◌∙◌, ℕ, suc, zero, Bool, true, false, cond, List, [], ◌∷◌, ◌++◌, Option, None, Some, length, nat_eq, nat_lt, slice_get, ap, arith, refl, subst, sym}
use Rattle.std.proofs.Math.ListN.{length-set}
use Rattle.std.proofs.lemmas.Bool.{ltb-true}
use Rattle.std.proofs.lemmas.List.{length-map}
use Rattle.std.specs.List.{AllByRecursion, flat_map}
use Rattle.std.specs.Option.{option_and_then, option_map, option_map_or}
use Rattle.indexmap.specs.IndexMap.{insert_entry}
use Rattle.crate_tables.proofs.AllLemmas.{all-append, all-get, all-left, all-push, all-right, all-weaker, entry-put, value-at, value-written}
use Rattle.crate_tables.proofs.FitLemmas.{Fits, IsFit, IsFitMap, Known, map-fits, put, with-fits}
use Rattle.crate_tables.proofs.FitSteps.{Goes, all-wider, end-among, goes-by, goes-further, goes-same, known-on, longer-same, more-push}
use Rattle.dm_base.specs.Names.{Name}
use Rattle.dm_base.specs.declared.ids.BlockId.{BlockId}
use Rattle.dm_base.specs.declared.ids.Crate.{Crate}
use Rattle.dm_base.specs.declared.ids.MapId.{MapId}
use Rattle.dm_base.specs.declared.ids.ModuleId.{ModuleId}
use Rattle.dm_base.specs.declared.ids.UseId.{UseId}
use Rattle.dm_base.specs.declared.visibility.Visibility.{Visibility}
use Rattle.dm_def_map.specs.CrateData.{CrateData, fresh_data, same_function, same_proc_macro, with_setting}
use Rattle.dm_def_map.specs.MapChanges.{changed}
use Rattle.dm_def_map.specs.Maps.{Map, Module, Modules, fresh_module, map_with_child, map_with_scope, nth_module, put_child, put_scope, with_child}
use Rattle.dm_def_map.specs.declared.crate_data.crate_setting.CrateSetting.{CrateSetting}
use Rattle.dm_def_map.specs.declared.crate_data.crate_setting.CrateSetting.TheVariants as setting
use Rattle.dm_def_map.specs.declared.map_change.MapChange.TheVariants as change
use Rattle.dm_def_map.specs.declared.modules.module_origin.ModuleOrigin.{ModuleOrigin}
use Rattle.dm_maps.specs.Build.{next_module, next_place, with_child_at_place, with_child_of, with_module}
use Rattle.dm_maps.specs.BuildCrateData.{data_of, map_with_shared, sharing, with_crate_setting, with_crate_settings, with_shared}
use Rattle.dm_maps.specs.BuildMaps.{with_map, with_prelude}
use Rattle.dm_maps.specs.Holding.{vis_holds}
use Rattle.dm_maps.specs.Holds.{module_holds, preludes_hold}
use Rattle.dm_maps.specs.Known.{KnowsAll}
use Rattle.dm_maps.specs.Maps.{Maps, map_at, maps_with, put_map}
use Rattle.dm_maps.specs.ScopeHolds.{macro_uses_hold, prelude_holds, scope_holds}
use Rattle.dm_maps.specs.TablesHold.{data_holds, diagnostics_hold, fn_of_macro_holds, helpers_hold, macro_defs_hold, macro_of_fn_holds}
use Rattle.dm_maps.specs.World.{World, maps_of, place_of, placed_module, scope_if_known, with_maps, with_scope, with_scope_in}
use Rattle.dm_maps.specs.declared.check.held.HeldId.{HeldId}
use Rattle.dm_maps.specs.declared.check.held.HeldId.TheVariants as held
use Rattle.dm_maps.specs.declared.place.Place.{Place}
use Rattle.dm_scope.specs.Scope.{Scope}

-- ---- Maps

put-count : (ms : Maps) (id : MapId) (y : Map) → length (put_map ms id y).crates ≡ length ms.crates
put-count ms id y = by id.block
  where
    by : (o : Option BlockId) → length (put ms id o y).crates ≡ length ms.crates
    by None = length-set ms.crates id.krate.0 y
    by (Some b) = refl

with-count : (ms : Maps) (id : MapId) (f : Map → Map) → length (maps_with ms id f).crates ≡ length ms.crates
with-count ms id f = by (map_at ms id)
  where
    by : (o : Option Map) → length (option_map_or (λ m. put_map ms id (f m)) o ms).crates ≡ length ms.crates
    by None = refl
    by (Some x) = put-count ms id (f x)

known-maps : (w : World) (ms : Maps) → length ms.crates ≡ length w.crate_maps → (h : HeldId) → Known w h → Known (with_maps w ms) h
known-maps w ms count (held.Module m) k = k
known-maps w ms count (held.Crate c) k = ap (nat_lt c.0) count ∙ k
known-maps w ms count (held.Use u) k = k
known-maps w ms count (held.Item i n) k = k
known-maps w ms count (held.Variant v) k = k
known-maps w ms count (held.Macro m) k = k

known-with : (w : World) (id : MapId) (f : Map → Map) (h : HeldId) → Known w h → Known (with_map w id f) h
known-with w id f = known-maps w (maps_with (maps_of w) id f) (with-count (maps_of w) id f)

goes-with : (w : World) (id : MapId) (f : Map → Map) → IsFit w → ((m : Map) → IsFitMap (Known (with_map w id f)) m → IsFitMap (Known (with_map w id f)) (f m)) → Goes w (with_map w id f)
goes-with w id f is step =
    goes-by w (with_map w id f) is (known-with w id f)
    (λ fit. record { maps = with-fits (Known (with_map w id f)) (maps_of w) id fit.maps f step; locals = fit.locals; tables = fit.tables })

pub goes-prelude : (w : World) (id : MapId) (p : Option (ModuleId × Option UseId)) → IsFit w → KnowsAll w (option_map_or prelude_holds p []) → Goes w (with_prelude w id p)
goes-prelude w id p is known =
    let f = changed (change.Prelude p) in
    let Q = Known (with_map w id f) in
    let new = all-weaker (Known w) Q (known-with w id f) (option_map_or prelude_holds p []) known in
    goes-with w id f is
    (λ m fit.
    let rest = macro_defs_hold m.macro_defs ++ (helpers_hold m.derive_helpers ++ diagnostics_hold m.diagnostics) in
    let old = all-left Q (preludes_hold m) rest fit.holds in
    record {
      holds = all-append Q (option_map_or prelude_holds p [] ++ macro_uses_hold m.macro_use) rest
          (all-append Q (option_map_or prelude_holds p []) (macro_uses_hold m.macro_use) new (all-right Q (option_map_or prelude_holds m.prelude []) (macro_uses_hold m.macro_use) old))
          (all-right Q (preludes_hold m) rest fit.holds);
      shared = fit.shared;
      modules = fit.modules;
    })

-- ---- Scopes

abbrev IsFitEntry : (HeldId → Type 0) → Module → Type 0
IsFitEntry P d = AllByRecursion P (module_holds d)

abbrev AreFitEntries : (HeldId → Type 0) → Modules → Type 0
AreFitEntries P es = AllByRecursion (λ e. IsFitEntry P e.1) es

scope-put : (P : HeldId → Type 0) (i : ℕ) (s : Scope) → AllByRecursion P (scope_holds s) → (m : Map) → IsFitMap P m → IsFitMap P (map_with_scope m i s)
scope-put P i s known m fit = record { holds = fit.holds; shared = fit.shared; modules = by (nth_module m.modules i) refl }
  where
    by : (o : Option Module) → nth_module m.modules i ≡ o → AreFitEntries P (put_scope m.modules i o s)
    by None e = fit.modules
    by (Some d) e =
        let old = value-at (IsFitEntry P) m.modules i d fit.modules e in
        value-written (IsFitEntry P) m.modules i (record d { scope = s }) fit.modules
        (all-append P (vis_holds d.visibility) (scope_holds s) (all-left P (vis_holds d.visibility) (scope_holds d.scope) old) known)

pub goes-scope : (w : World) (m : ModuleId) (s : Scope) → IsFit w → KnowsAll w (scope_holds s) → Goes w (with_scope w m s)
goes-scope w m s is known = by (place_of w m)
  where
    by : (o : Option Place) → Goes w (with_scope_in w o s)
    by None = goes-same w is
    by (Some q) =
        let f : Map → Map = λ x. map_with_scope x q.index s in
        let Q = Known (with_map w q.map f) in
        goes-with w q.map f is (scope-put Q q.index s (all-weaker (Known w) Q (known-with w q.map f) (scope_holds s) known))

-- what its scopes hold is known
pub scope-fits : (w : World) (m : ModuleId) (s : Scope) → IsFit w → scope_if_known w m ≡ Some s → KnowsAll w (scope_holds s)
scope-fits w m s is there = by (place_of w m) there
  where
    of : (x : Map) → IsFitMap (Known w) x → (i : ℕ) (o : Option Module) → nth_module x.modules i ≡ o → option_map (λ (d : Module). d.scope) o ≡ Some s → KnowsAll w (scope_holds s)
    of x fit i None e g = cc
    of x fit i (Some d) e g =
        let same : d.scope ≡ s = cc in
        subst (λ t. KnowsAll w (scope_holds t)) same (all-right (Known w) (vis_holds d.visibility) (scope_holds d.scope) (value-at (IsFitEntry (Known w)) x.modules i d fit.modules e))

    at : (q : Place) (o : Option Map) → map_at (maps_of w) q.map ≡ o → option_map (λ (d : Module). d.scope) (option_and_then (λ (x : Map). nth_module x.modules q.index) o) ≡ Some s → KnowsAll w (scope_holds s)
    at q None e g = cc
    at q (Some x) e g = of x (map-fits (Known w) (maps_of w) q.map is.maps x e) q.index (nth_module x.modules q.index) refl g

    by : (o : Option Place) → option_map (λ (d : Module). d.scope) (option_and_then (placed_module w) o) ≡ Some s → KnowsAll w (scope_holds s)
    by None g = cc
    by (Some q) g = at q (map_at (maps_of w) q.map) refl g

-- ---- A module more

child-put : (P : HeldId → Type 0) (i : ℕ) (n : Name) (m : ModuleId) (d : Module) → IsFitEntry P d → (x : Map) → IsFitMap P x → IsFitMap P (map_with_child x i n m d)
child-put P i n m d known x fit = record { holds = fit.holds; shared = fit.shared; modules = by (nth_module more i) refl }
  where
    more : Modules
    more = x.modules ++ (m, d) ∷ []

    all : AreFitEntries P more
    all = all-push (λ e. IsFitEntry P e.1) x.modules (m, d) fit.modules known

    by : (o : Option Module) → nth_module more i ≡ o → AreFitEntries P (put_child more i o n m)
    by None e = all
    by (Some c) e = value-written (IsFitEntry P) more i (with_child c n m) all (value-at (IsFitEntry P) more i c all e)

module _ (w : World) (p : ModuleId) (n : Name) (d : Module) where
  abbrev below : Place → World
  below q = with_child_at_place w p q n d

  child-wider : (q : Place) (h : HeldId) → Known w h → Known (below q) h
  child-wider q =
      let count = with-count (maps_of w) q.map (λ x. map_with_child x q.index n (next_module w) d) in
      known-on w (below q) (record {
        places = more-push w.places (next_place w q.map p);
        crates = omega (arith, count);
        uses = omega arith;
        items = longer-same w.items;
        variants = omega arith;
        macros = longer-same w.macros;
      })

  goes-child : IsFit w → KnowsAll w (module_holds d) → Goes w (with_child_of w p n d)
  goes-child is known = by (place_of w p)
    where
      by : (o : Option Place) → Goes w (option_map_or below o w)
      by None = goes-same w is
      by (Some q) =
          let Q = Known (below q) in
          let new = all-weaker (Known w) Q (child-wider q) (module_holds d) known in
          goes-by w (below q) is (child-wider q)
          (λ fit. record {
            maps = with-fits Q (maps_of w) q.map fit.maps (λ x. map_with_child x q.index n (next_module w) d) (child-put Q q.index n (next_module w) d new);
            locals = fit.locals;
            tables = fit.tables;
          })

  new-child : Known w (held.Module p) → Known (with_child_of w p n d) (held.Module (next_module w))
  new-child known = by (get-within w.places p.0 (ltb-true p.0 (length w.places) known))
    where
      get-within : {X : Type 0} (xs : List X) (i : ℕ) → i < length xs → (x : X) × (slice_get xs i ≡ Some x)
      get-within [] i h = absurd (let f : ⊥ = omega arith in f)
      get-within (x ∷ xs) zero h = (x, refl)
      get-within (x ∷ xs) (suc i) h = get-within xs i (omega arith)

      by : (q : Place) × (slice_get w.places p.0 ≡ Some q) → Known (with_child_of w p n d) (held.Module (next_module w))
      by q = subst (λ (o : Option Place). Known (option_map_or below o w) (held.Module (next_module w))) (sym q.1) (end-among w.places (next_place w q.0.map p))

pub goes-module : (w : World) (p : ModuleId) (n : Name) (o : ModuleOrigin) (v : Visibility) → IsFit w → KnowsAll w (vis_holds v) → Goes w (with_module w p n o v)
goes-module w p n o v is known = goes-child w p n (fresh_module o v (Some p)) is (all-append (Known w) (vis_holds v) [] known tt)

pub new-module : (w : World) (p : ModuleId) (n : Name) (o : ModuleOrigin) (v : Visibility) → Known w (held.Module p) → Known (with_module w p n o v) (held.Module (next_module w))
new-module w p n o v known = new-child w p n (fresh_module o v (Some p)) known

-- ---- Data of crates

-- what a setting holds: a procedural macro, and the function that it is
abbrev pub setting_holds : CrateSetting → List HeldId
setting_holds (setting.ProcMacro f m) = macro_of_fn_holds (f, m)
setting_holds _ = []

data-put : (P : HeldId → Type 0) (d : CrateData) (s : CrateSetting) → AllByRecursion P (data_holds d) → AllByRecursion P (setting_holds s) → AllByRecursion P (data_holds (with_setting d s))
data-put P d setting.NoStd h k = h
data-put P d setting.NoCore h k = h
data-put P d setting.CoherenceIsCore h k = h
data-put P d (setting.RecursionLimit limit) h k = h
data-put P d (setting.Tool tool) h k = h
data-put P d (setting.Feature feature) h k = h
data-put P d (setting.ProcMacro f m) h k =
    let left = flat_map macro_of_fn_holds d.macro_of_fn in
    let right = flat_map fn_of_macro_holds d.fn_of_macro in
    all-append P (flat_map macro_of_fn_holds (insert_entry same_function d.macro_of_fn f m)) (flat_map fn_of_macro_holds (insert_entry same_proc_macro d.fn_of_macro m f))
    (entry-put P macro_of_fn_holds same_function (λ a c x y g i. (g.0, i.1)) d.macro_of_fn f m (all-left P left right h) (k.0, (k.1.0, tt)))
    (entry-put P fn_of_macro_holds same_proc_macro (λ a c x y g i. (g.0, i.1)) d.fn_of_macro m f (all-right P left right h) (k.1.0, (k.0, tt)))

data-fits : (P : HeldId → Type 0) (w : World) (k : Crate) → Fits P w → AllByRecursion P (data_holds (data_of w k))
data-fits P w k fit = by (slice_get w.crate_maps k.0) refl
  where
    by : (o : Option Map) → slice_get w.crate_maps k.0 ≡ o → AllByRecursion P (data_holds (option_map_or (λ m. m.shared) o fresh_data))
    by None e = tt
    by (Some x) e = (all-get (IsFitMap P) w.crate_maps k.0 x fit.maps.crates e).shared

shared-fits : (P : HeldId → Type 0) (k : Crate) (d : CrateData) → AllByRecursion P (data_holds d) → (ms : List Map) → AllByRecursion (IsFitMap P) ms → AllByRecursion (IsFitMap P) (with_shared k d ms)
shared-fits P k d known [] h = tt
shared-fits P k d known (m ∷ ms) h = (by (nat_eq m.id.krate.0 k.0), shared-fits P k d known ms h.1)
  where
    by : (b : Bool) → IsFitMap P (cond b (record m { shared = d }) m)
    by true = record { holds = h.0.holds; shared = known; modules = h.0.modules }
    by false = h.0

pub goes-setting : (w : World) (k : Crate) (s : CrateSetting) → IsFit w → KnowsAll w (setting_holds s) → Goes w (with_crate_setting w k s)
goes-setting w k s is known =
    let d = with_setting (data_of w k) s in
    let v = sharing w k d in
    let wider = known-maps w (record { crates = with_shared k d w.crate_maps; blocks = with_shared k d w.block_maps }) (length-map w.crate_maps (map_with_shared k d)) in
    goes-by w v is wider
    (λ fit.
    let fine = data-put (Known v) (data_of w k) s (data-fits (Known v) w k fit) (all-weaker (Known w) (Known v) wider (setting_holds s) known) in
    record {
      maps = record { crates = shared-fits (Known v) k d fine w.crate_maps fit.maps.crates; blocks = shared-fits (Known v) k d fine w.block_maps fit.maps.blocks };
      locals = fit.locals;
      tables = fit.tables;
    })

pub goes-settings : (w : World) (k : Crate) (ss : List CrateSetting) → IsFit w → AllByRecursion (λ s. KnowsAll w (setting_holds s)) ss → Goes w (with_crate_settings w k ss)
goes-settings w k [] is known = goes-same w is
goes-settings w k (s ∷ ss) is known =
    let v = with_crate_setting w k s in
    let one = goes-setting w k s is known.0 in
    goes-further w v (with_crate_settings v k ss) one
    (goes-settings v k ss one.fit (all-weaker (λ s. KnowsAll w (setting_holds s)) (λ s. KnowsAll v (setting_holds s)) (λ s. all-wider w v one (setting_holds s)) ss known.1))
