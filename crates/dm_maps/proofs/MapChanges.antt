-- A checked world goes on, where one of its maps has a macro more in its `macro_use` prelude, or a diagnostic more.
use Rattle.std.proofs.Common.{◌≡◌, ◌∙◌, ◌^◌, ◌-◌, ◌+◌, min, ℕ, zero, suc, Bool, true, false, cond, List, [], ◌∷◌, ◌++◌, Option, Some, map, set, slice_get, length, refl, sym, ap, subst, IsTrue, inl, inr}
use Rattle.std.specs.List.{AllByRecursion, flat_map}
use Rattle.std.specs.Option.{option_and_then, option_map_or}
use Rattle.indexmap.specs.IndexMap.{insert_entry}
use Rattle.dm_base.specs.declared.ids.ExternCrateId.{ExternCrateId}
use Rattle.dm_base.specs.declared.ids.MapId.{MapId}
use Rattle.dm_base.specs.declared.item_ids.MacroId.{MacroId}
use Rattle.dm_base.specs.Names.{Name, same_name}
use Rattle.dm_base.specs.declared.per_ns.Namespace.{Namespace}
use Rattle.dm_base.specs.declared.per_ns.Namespace.TheVariants.{Types, Values, Macros}
use Rattle.dm_scope.specs.declared.diagnostics.DefDiagnostic.{DefDiagnostic}
use Rattle.dm_scope.specs.Tables.{record_count}
use Rattle.dm_scope.specs.Records.{records_in}
use Rattle.dm_scope.specs.Scope.{Scope, no_scope}
use Rattle.dm_maps.specs.declared.check.fault.Holder.TheVariants as holder
use Rattle.dm_maps.specs.declared.check.held.HeldId.{HeldId}
use Rattle.dm_maps.specs.declared.check.held.HeldId.TheVariants as held
use Rattle.dm_maps.specs.Holding.{local_holds}
use Rattle.dm_maps.specs.ScopeHolds.{prelude_holds, macro_uses_hold}
use Rattle.dm_maps.specs.TablesHold.{data_holds, diagnostic_holds, diagnostics_hold, helpers_hold, macro_defs_hold}
use Rattle.dm_def_map.specs.CrateData.{CrateData}
use Rattle.dm_def_map.specs.declared.map_change.MapChange.TheVariants.{MacroUse, Diagnostic}
use Rattle.dm_def_map.specs.MapChanges.{changed}
use Rattle.dm_def_map.specs.Maps.{Map, Module, nth_module}
use Rattle.dm_maps.specs.declared.place.Place.{Place}
use Rattle.dm_maps.specs.declared.world.record_counts.RecordCounts.{RecordCounts}
use Rattle.dm_maps.specs.BuildMaps.{with_map}
use Rattle.dm_maps.specs.Built.{IsBuilt}
use Rattle.dm_maps.specs.Cut.{among, cut_map, cut}
use Rattle.dm_maps.specs.First.{Held, each_from, local_at, crate_holder, block_holder, module_holder, tables_holder, IsChecked}
use Rattle.dm_maps.specs.Holds.{map_holds, module_holds, preludes_hold}
use Rattle.dm_maps.specs.Known.{knows, KnowsAll}
use Rattle.dm_maps.specs.Maps.{Maps, map_at, maps_with}
use Rattle.dm_maps.specs.RecordCounts.{IsCounted}
use Rattle.dm_maps.specs.ScopeTables.{scope_at_place, scope_tables}
use Rattle.dm_maps.specs.Sound.{IsCheckedWorld}
use Rattle.dm_maps.specs.Stays.{StaysKnown}
use Rattle.dm_maps.specs.World.{World, maps_of, with_maps, placed_module}
use Rattle.dm_maps.proofs.AllLemmas.{all-left, all-right, all-append, all-weaker}
use Rattle.dm_maps.proofs.CutPush.{kept-insert}
use Rattle.dm_maps.proofs.GrownLemmas.{count-with}
use Rattle.dm_maps.proofs.MapWrites.{put-cases, put-other, with-cases}
use Rattle.dm_maps.proofs.ModuleGrowth.{map-set_own}
use Rattle.dm_maps.proofs.ScopeWrites.{knows-kept}
use Rattle.dm_maps.proofs.SoundLemmas.{IsSound-checked}
use Rattle.dm_maps.proofs.StayLemmas.{same-cut}

-- ---- What holds of each of a list holds of each with one written, if it holds of that.

each-put : {X : Type 0} (P : Held → Type 0) (f : ℕ → X → Held) (i k : ℕ) (xs : List X) (x y : X) → slice_get xs k ≡ Some x → ((j : ℕ) → P (f j x) → P (f j y)) → AllByRecursion P (each_from f i xs) → AllByRecursion P (each_from f i (set xs k y))
each-put P f i k [] x y e step h = tt
each-put P f i zero (z ∷ zs) x y e step h = let same : z ≡ x = cc in (step i (subst (λ a. P (f i a)) same h.0), h.1)
each-put P f i (suc k) (z ∷ zs) x y e step h = (h.0, each-put P f (i + 1) k zs x y e step h.1)

map-put : {X Y : Type 0} (P : Y → Type 0) (f : X → Y) (k : ℕ) (xs : List X) (x y : X) → slice_get xs k ≡ Some x → (P (f x) → P (f y)) → AllByRecursion P (map f xs) → AllByRecursion P (map f (set xs k y))
map-put P f k [] x y e step h = tt
map-put P f zero (z ∷ zs) x y e step h = let same : z ≡ x = cc in (step (subst (λ a. P (f a)) same h.0), h.1)
map-put P f (suc k) (z ∷ zs) x y e step h = (h.0, map-put P f k zs x y e step h.1)

each-same : {X : Type 0} (f g : ℕ → X → Held) → ((i : ℕ) (x : X) → g i x ≡ f i x) → (i : ℕ) (xs : List X) → each_from g i xs ≡ each_from f i xs
each-same f g same i [] = refl
each-same f g same i (x ∷ xs) = (λ j. same i x j ∷ each-same f g same (i + 1) xs j)

map-same : {X Y : Type 0} (f g : X → Y) → ((x : X) → g x ≡ f x) → (xs : List X) → map g xs ≡ map f xs
map-same f g same [] = refl
map-same f g same (x ∷ xs) = (λ j. same x j ∷ map-same f g same xs j)

-- ---- A map is changed outside its modules and the data that it shares, and holds then ids of the world.

pub record FitsMap (w : World) (f : Map → Map) : Type 0 where
  pub modules : (m : Map) → (f m).modules ≡ m.modules
  pub shared : (m : Map) → (f m).shared ≡ m.shared
  pub holds : (m : Map) → KnowsAll w (map_holds m) → KnowsAll w (map_holds (f m))

abbrev held_at : ℕ → Option Module → Held
held_at i o = (holder.Module (record { 0 = i }), option_map_or module_holds o [])

abbrev nth_of : Option Map → ℕ → Option Module
nth_of o j = option_and_then (λ (x : Map). nth_module x.modules j) o

module _ (w : World) (id : MapId) (f : Map → Map) (fits : FitsMap w f) where
  abbrev v : World
  v = with_map w id f

  abbrev Known : HeldId → Type 0
  Known h = IsTrue (knows w h)

  abbrev Fine : Held → Type 0
  Fine h = KnowsAll w h.1

  abbrev FineNow : Held → Type 0
  FineNow h = KnowsAll v h.1

  known-same : (h : HeldId) → knows v h ≡ knows w h
  known-same h = knows-kept w (maps_with (maps_of w) id f) (count-with (maps_of w) id f) h

  still-fine : (hs : List Held) → AllByRecursion Fine hs → AllByRecursion FineNow hs
  still-fine hs all = all-weaker Fine FineNow (λ h fine. all-weaker Known (λ x. IsTrue (knows v x)) (λ x e. known-same x ∙ e) h.1 fine) hs all

  placed-same : (p : Place) → placed_module v p ≡ placed_module w p
  placed-same p =
      with-cases (maps_of w) id f (λ ms. nth_of (map_at ms p.map) p.index ≡ placed_module w p) refl
      (λ x e. elim (put-other (maps_of w) id p.map x (f x) e) [
        | inl h ↦ ap (λ o. nth_of o p.index) h
        | inr h ↦ ap (λ o. nth_of o p.index) h.1 ∙ ap (λ es. nth_module es p.index) (fits.modules x) ∙ sym (ap (λ o. nth_of o p.index) h.0)
      ])

  -- the holders, one after another
  crate-step : (x : Map) (j : ℕ) → Fine (crate_holder w.local_maps j x) → Fine (crate_holder w.local_maps j (f x))
  crate-step x j h =
      let locals = local_holds (local_at w.local_maps j) in
      all-append Known (map_holds (f x)) (locals ++ data_holds (f x).shared)
      (fits.holds x (all-left Known (map_holds x) (locals ++ data_holds x.shared) h))
      (subst (λ (d : CrateData). KnowsAll w (locals ++ data_holds d)) (sym (fits.shared x)) (all-right Known (map_holds x) (locals ++ data_holds x.shared) h))

  abbrev crates : List Map → List Held
  crates ms = each_from (crate_holder w.local_maps) 0 ms

  abbrev blocks : List Map → List Held
  blocks ms = map block_holder ms

  crates-fine : AllByRecursion Fine (crates w.crate_maps) → AllByRecursion Fine (crates v.crate_maps)
  crates-fine h =
      with-cases (maps_of w) id f (λ ms. AllByRecursion Fine (crates ms.crates)) h
      (λ x e. put-cases (maps_of w) id x (f x) (λ ms. AllByRecursion Fine (crates ms.crates)) e
      (λ none g. each-put Fine (crate_holder w.local_maps) 0 id.krate.0 w.crate_maps x (f x) g (crate-step x) h)
      (λ b some g. h))

  blocks-fine : AllByRecursion Fine (blocks w.block_maps) → AllByRecursion Fine (blocks v.block_maps)
  blocks-fine h =
      with-cases (maps_of w) id f (λ ms. AllByRecursion Fine (blocks ms.blocks)) h
      (λ x e. put-cases (maps_of w) id x (f x) (λ ms. AllByRecursion Fine (blocks ms.blocks)) e
      (λ none g. h)
      (λ b some g. map-put Fine block_holder b.0 w.block_maps x (f x) g (fits.holds x) h))

  modules-same : each_from (module_holder v) 0 w.places ≡ each_from (module_holder w) 0 w.places
  modules-same = each-same (module_holder w) (module_holder v) (λ i p. ap (held_at i) (placed-same p)) 0 w.places

  IsChecked-mapped : IsChecked w → IsChecked v
  IsChecked-mapped h =
      let old = each_from (module_holder w) 0 w.places in
      let rest = tables_holder w ∷ [] in
      let after_crates = all-right Fine (crates w.crate_maps) (blocks w.block_maps ++ (old ++ rest)) h in
      let after_blocks = all-right Fine (blocks w.block_maps) (old ++ rest) after_crates in
      let new = each_from (module_holder v) 0 w.places in
      still-fine (crates v.crate_maps ++ (blocks v.block_maps ++ (new ++ rest)))
      (all-append Fine (crates v.crate_maps) (blocks v.block_maps ++ (new ++ rest)) (crates-fine (all-left Fine (crates w.crate_maps) (blocks w.block_maps ++ (old ++ rest)) h))
      (all-append Fine (blocks v.block_maps) (new ++ rest) (blocks-fine (all-left Fine (blocks w.block_maps) (old ++ rest) after_crates))
      (subst (λ l. AllByRecursion Fine (l ++ rest)) (sym modules-same) after_blocks)))

  counts-same : (ns : Namespace) → record_count ns (scope_tables w) ≡ record_count ns (scope_tables v)
  unfolding scope_tables
  counts-same ns =
      let scopes : map (scope_at_place w) w.places ≡ map (scope_at_place v) w.places =
      map-same (scope_at_place v) (scope_at_place w) (λ p. ap (λ o. option_map_or (λ (d : Module). d.scope) o no_scope) (sym (placed-same p))) w.places in
      ap (λ (l : List Scope). min (length (flat_map (records_in ns) l)) (2 ^ 64 - 1)) scopes

-- it is checked, and its records are as many
pub map-goes_on : (w v : World) (c : RecordCounts) (id : MapId) (f : Map → Map) → IsCheckedWorld w → IsCounted w c → IsBuilt v → v ≡ with_map w id f → FitsMap w f → IsCheckedWorld v × IsCounted v c
map-goes_on w v c id f is counted built same fits =
    let checked : IsChecked v = subst IsChecked (sym same) (IsChecked-mapped w id f fits is.checked) in
    let on : (ns : Namespace) → record_count ns (scope_tables w) ≡ record_count ns (scope_tables v) = λ ns. counts-same w id f fits ns ∙ ap (λ u. record_count ns (scope_tables u)) (sym same) in (
      record { lawful = built.0; listed = built.1; family = built.2; checked = checked; sound = IsSound-checked v checked built },
      record { types = counted.types ∙ on Types; values = counted.values ∙ on Values; macros = counted.macros ∙ on Macros },
    )

-- what it has under names stays, where what the map has under them does
pub map-cut : (w : World) (N : List Name) (id : MapId) (f : Map → Map) → ((m : Map) → cut_map N (f m) ≡ cut_map N m) → cut (with_map w id f) N ≡ cut w N
map-cut w N id f same =
    let P : Maps → Type 0 = λ ms. cut (with_maps w ms) N ≡ cut w N in
    with-cases (maps_of w) id f P refl
    (λ x e. put-cases (maps_of w) id x (f x) P e
    (λ none g. ap (λ l. record (cut w N) { crate_maps = l }) (map-set_own (cut_map N) w.crate_maps id.krate.0 x (f x) g (same x)))
    (λ b some g. ap (λ l. record (cut w N) { block_maps = l }) (map-set_own (cut_map N) w.block_maps b.0 x (f x) g (same x))))

-- what was known is known, and the name-independent part is as before
map-stays : (w : World) (id : MapId) (f : Map → Map) → ((m : Map) → cut_map [] (f m) ≡ cut_map [] m) → StaysKnown w (with_map w id f)
map-stays w id f same = same-cut w (with_map w id f) (map-cut w [] id f same) refl (λ h. knows-kept w (maps_with (maps_of w) id f) (count-with (maps_of w) id f) h)

-- ---- A diagnostic more.

diagnostics-more : (P : HeldId → Type 0) (ds : List DefDiagnostic) (d : DefDiagnostic) → AllByRecursion P (diagnostics_hold ds) → AllByRecursion P (diagnostic_holds d) → AllByRecursion P (diagnostics_hold (ds ++ d ∷ []))
diagnostics-more P [] d h p = all-append P (diagnostic_holds d) [] p tt
diagnostics-more P (x ∷ xs) d h p =
    all-append P (diagnostic_holds x) (diagnostics_hold (xs ++ d ∷ [])) (all-left P (diagnostic_holds x) (diagnostics_hold xs) h)
    (diagnostics-more P xs d (all-right P (diagnostic_holds x) (diagnostics_hold xs) h) p)

pub fits-diagnostic : (w : World) (d : DefDiagnostic) → KnowsAll w (diagnostic_holds d) → FitsMap w (changed (Diagnostic d))
fits-diagnostic w d known = record {
  modules = λ m. refl;
  shared = λ m. refl;
  holds = λ m h.
      let Known : HeldId → Type 0 = λ x. IsTrue (knows w x) in
      let preludes = preludes_hold m in
      let defs = macro_defs_hold m.macro_defs in
      let helpers = helpers_hold m.derive_helpers in
      let old = diagnostics_hold m.diagnostics in
      let new = diagnostics_hold (m.diagnostics ++ d ∷ []) in
      let after_preludes = all-right Known preludes (defs ++ (helpers ++ old)) h in
      let after_defs = all-right Known defs (helpers ++ old) after_preludes in
      all-append Known preludes (defs ++ (helpers ++ new)) (all-left Known preludes (defs ++ (helpers ++ old)) h)
      (all-append Known defs (helpers ++ new) (all-left Known defs (helpers ++ old) after_preludes)
      (all-append Known helpers new (all-left Known helpers old after_defs)
      (diagnostics-more Known m.diagnostics d (all-right Known helpers old after_defs) known)));
}

pub diagnostic-stays : (w : World) (id : MapId) (d : DefDiagnostic) → StaysKnown w (with_map w id (changed (Diagnostic d)))
diagnostic-stays w id d = map-stays w id (changed (Diagnostic d)) (λ m. refl)

pub diagnostic-cut : (w : World) (N : List Name) (id : MapId) (d : DefDiagnostic) → cut (with_map w id (changed (Diagnostic d))) N ≡ cut w N
diagnostic-cut w N id d = map-cut w N id (changed (Diagnostic d)) (λ m. refl)

-- ---- A macro more.

abbrev Brought : Type 0
Brought = MacroId × Option ExternCrateId

macro_uses-put : (P : HeldId → Type 0) (es : List (Name × Brought)) (n : Name) (x : Brought) → AllByRecursion P (macro_uses_hold es) → P (held.Macro x.0) → AllByRecursion P (macro_uses_hold (insert_entry same_name es n x))
macro_uses-put P [] n x h p = (p, tt)
macro_uses-put P (e ∷ es) n x h p = by (same_name n e.0) (macro_uses-put P es n x h.1 p)
  where
    by : (b : Bool) → AllByRecursion P (macro_uses_hold (insert_entry same_name es n x)) → AllByRecursion P (macro_uses_hold (cond b ((e.0, x) ∷ es) (e ∷ insert_entry same_name es n x)))
    by true rest = (p, h.1)
    by false rest = (h.0, rest)

pub fits-macro_use : (w : World) (n : Name) (x : Brought) → IsTrue (knows w (held.Macro x.0)) → FitsMap w (changed (MacroUse n x))
fits-macro_use w n x known = record {
  modules = λ m. refl;
  shared = λ m. refl;
  holds = λ m h.
      let Known : HeldId → Type 0 = λ y. IsTrue (knows w y) in
      let prelude = option_map_or prelude_holds m.prelude [] in
      let old = macro_uses_hold m.macro_use in
      let new = macro_uses_hold (insert_entry same_name m.macro_use n x) in
      let rest = macro_defs_hold m.macro_defs ++ (helpers_hold m.derive_helpers ++ diagnostics_hold m.diagnostics) in
      let preludes = all-left Known (prelude ++ old) rest h in
      all-append Known (prelude ++ new) rest
      (all-append Known prelude new (all-left Known prelude old preludes) (macro_uses-put Known m.macro_use n x (all-right Known prelude old preludes) known))
      (all-right Known (prelude ++ old) rest h);
}

pub macro_use-stays : (w : World) (id : MapId) (n : Name) (x : Brought) → StaysKnown w (with_map w id (changed (MacroUse n x)))
macro_use-stays w id n x = map-stays w id (changed (MacroUse n x)) (λ m. refl)

pub macro_use-cut : (w : World) (N : List Name) (id : MapId) (n : Name) (x : Brought) → among N n ≡ false → cut (with_map w id (changed (MacroUse n x))) N ≡ cut w N
macro_use-cut w N id n x other = map-cut w N id (changed (MacroUse n x)) (λ m. ap (λ (es : List (Name × Brought)). record (cut_map N m) { macro_use = es }) (kept-insert N n x other m.macro_use))
