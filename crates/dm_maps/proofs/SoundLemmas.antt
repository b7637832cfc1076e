-- Look-ups of a checked world give ids of the world: none dangles.
use Rattle.std.proofs.Common.{◌≡◌, ◌+◌, ℕ, zero, suc, Bool, true, false, cond, List, [], ◌∷◌, ◌++◌, Option, Some, None, length, map, slice_get, refl, sym, ap, ◌∙◌, subst, arith, nat_eq, true≢false, zero-add, IsTrue, IsSome}
use Rattle.std.specs.List.{AllByRecursion, flat_map}
use Rattle.std.specs.Option.{ForSome, option_map, option_map_or, option_and_then}
use Rattle.std.proofs.lemmas.Option.{slice_get-map, slice_get_within}
use Rattle.std.proofs.lemmas.Bool.{lt-ltb, eqb-true}
use Rattle.std.proofs.lemmas.List.{length-map}
use Rattle.dm_maps.proofs.Ids.{BlockId, ExternCrateId, MacroId, MapId, ModuleId, Name, Place, UseId, find_name, same_name}
use Rattle.dm_scope.specs.Pushes.{last_of}
use Rattle.dm_scope.specs.Scope.{Scope, no_scope, bound_in, legacy_in}
use Rattle.dm_maps.specs.declared.check.held.HeldId.{HeldId}
use Rattle.dm_maps.specs.declared.check.held.HeldId.TheVariants as held
use Rattle.dm_def_map.specs.Maps.{Map, Module, Modules, LocalMap, module_at, nth_module}
use Rattle.dm_maps.specs.World.{World, scope_of, placed_module, numbered_map, map_of}
use Rattle.dm_maps.specs.Known.{knows, KnowsAll}
use Rattle.dm_maps.specs.Holding.{res_holds, local_holds, type_holds, value_holds, macro_holds, vis_holds}
use Rattle.dm_maps.specs.Holds.{map_holds, preludes_hold, module_holds}
use Rattle.dm_maps.specs.ScopeHolds.{scope_holds, prelude_holds, macro_uses_hold, types_hold, values_hold, macros_hold, legacies_hold, bindings_hold, records_hold, lists_hold}
use Rattle.dm_maps.specs.TablesHold.{macro_defs_hold, helpers_hold, diagnostics_hold, data_holds, tables_hold}
use Rattle.dm_maps.specs.First.{Held, each_from, crate_holder, block_holder, module_holder, tables_holder, local_at, IsChecked}
use Rattle.dm_maps.specs.Readings.{macro_uses_of, prelude_of}
use Rattle.dm_maps.specs.Built.{IsBuilt}
use Rattle.dm_maps.specs.Trees.{tree_of, outline, outlines, IsWorld, IsMap, AreMaps, is_crate_id, is_block_id}
use Rattle.dm_maps.specs.Sound.{IsSound}
use Rattle.dm_maps.proofs.ModuleGrowth.{entry}
use Rattle.dm_maps.proofs.AllLemmas.{all-left, all-right, all-append, all-get, all-map, all-flat_map, found, for_none, for_some, some-is}
use Rattle.dm_maps.proofs.ListLemmas.{use-among, def-among, macro-among, variant-enum, variant-own, variant-known}

-- ---- The holders of a checked world.

module _ (w : World) where
  abbrev Known : HeldId → Type 0
  Known h = IsTrue (knows w h)

  abbrev Fine : Held → Type 0
  Fine h = KnowsAll w h.1

  each-fine : {X : Type 0} (f : ℕ → X → Held) (i k : ℕ) (xs : List X) (x : X) → AllByRecursion Fine (each_from f i xs) → slice_get xs k ≡ Some x → Fine (f (i + k) x)
  each-fine f i k [] x h e = cc
  each-fine f i zero (y ∷ ys) x h e =
      let same : y ≡ x = cc in
      let number : i ≡ i + 0 = omega arith in
      subst (λ j. Fine (f j x)) number (subst (λ z. Fine (f i z)) same h.0)
  each-fine f i (suc k) (y ∷ ys) x h e =
      let number : (i + 1) + k ≡ i + suc k = omega arith in
      subst (λ j. Fine (f j x)) number (each-fine f (i + 1) k ys x h.1 e)

  module _ (checked : IsChecked w) where
    abbrev crates : List Held
    crates = each_from (crate_holder w.local_maps) 0 w.crate_maps

    abbrev blocks : List Held
    blocks = map block_holder w.block_maps

    abbrev modules : List Held
    modules = each_from (module_holder w) 0 w.places

    after_crates : AllByRecursion Fine (blocks ++ (modules ++ tables_holder w ∷ []))
    after_crates = all-right Fine crates (blocks ++ (modules ++ tables_holder w ∷ [])) checked

    pub fine_tables : KnowsAll w (tables_hold w.item_tables)
    fine_tables = (all-right Fine modules (tables_holder w ∷ []) (all-right Fine blocks (modules ++ tables_holder w ∷ []) after_crates)).0

    fine_crate : (k : ℕ) (m : Map) → slice_get w.crate_maps k ≡ Some m → KnowsAll w (map_holds m)
    fine_crate k m e =
        all-left Known (map_holds m) (local_holds (local_at w.local_maps (0 + k)) ++ data_holds m.shared)
        (each-fine (crate_holder w.local_maps) 0 k w.crate_maps m (all-left Fine crates (blocks ++ (modules ++ tables_holder w ∷ [])) checked) e)

    -- the modules of an extern prelude
    pub fine_local : (k : ℕ) (m : Map) (L : LocalMap) → slice_get w.crate_maps k ≡ Some m → slice_get w.local_maps k ≡ Some L → KnowsAll w (local_holds L)
    fine_local k m L e g =
        subst (λ o. KnowsAll w (local_holds (option_map_or (λ (x : LocalMap). x) o []))) g
        (subst (λ j. KnowsAll w (local_holds (local_at w.local_maps j))) (zero-add k) (all-left Known (local_holds (local_at w.local_maps (0 + k))) (data_holds m.shared) (all-right Known (map_holds m) (local_holds (local_at w.local_maps (0 + k)) ++ data_holds m.shared)
        (each-fine (crate_holder w.local_maps) 0 k w.crate_maps m (all-left Fine crates (blocks ++ (modules ++ tables_holder w ∷ [])) checked) e))))

    fine_block : (b : ℕ) (m : Map) → slice_get w.block_maps b ≡ Some m → KnowsAll w (map_holds m)
    fine_block b m e = all-get (λ (x : Map). KnowsAll w (map_holds x)) w.block_maps b m (all-map Fine block_holder w.block_maps (all-left Fine blocks (modules ++ tables_holder w ∷ []) after_crates)) e

    fine_module : (m : ModuleId) (p : Place) (d : Module) → slice_get w.places m.0 ≡ Some p → placed_module w p ≡ Some d → KnowsAll w (module_holds d)
    fine_module m p d e g =
        subst (λ o. KnowsAll w (option_map_or module_holds o [])) g
        (each-fine (module_holder w) 0 m.0 w.places p (all-left Fine modules (tables_holder w ∷ []) (all-right Fine blocks (modules ++ tables_holder w ∷ []) after_crates)) e)

    fine_numbered : (id : MapId) (m : Map) → numbered_map w id ≡ Some m → KnowsAll w (map_holds m)
    fine_numbered id m e = by id.block e
      where
        by : (block : Option BlockId) → elim block [ None ↦ slice_get w.crate_maps id.krate.0 | Some b ↦ slice_get w.block_maps b.0 ] ≡ Some m → KnowsAll w (map_holds m)
        by None g = fine_crate id.krate.0 m g
        by (Some b) g = fine_block b.0 m g

    fine_preludes : (id : MapId) (m : Map) → numbered_map w id ≡ Some m → KnowsAll w (preludes_hold m)
    fine_preludes id m e = all-left Known (preludes_hold m) (macro_defs_hold m.macro_defs ++ (helpers_hold m.derive_helpers ++ diagnostics_hold m.diagnostics)) (fine_numbered id m e)

    -- what a scope binds under a name
    bound_of : (s : Scope) → KnowsAll w (scope_holds s) → (n : Name) → KnowsAll w (res_holds (bound_in s n))
    bound_of s holds n =
        let bindings = all-left Known (bindings_hold s) (records_hold s ++ (legacies_hold s.legacy_macros ++ lists_hold s)) holds in
        let types = all-left Known (types_hold s.types.items) (values_hold s.values.items ++ macros_hold s.macros.items) bindings in
        let others = all-right Known (types_hold s.types.items) (values_hold s.values.items ++ macros_hold s.macros.items) bindings in
        let values = all-left Known (values_hold s.values.items) (macros_hold s.macros.items) others in
        let macros = all-right Known (values_hold s.values.items) (macros_hold s.macros.items) others in
        let r = bound_in s n in
        all-append Known (option_map_or type_holds r.types [] ++ option_map_or value_holds r.values []) (option_map_or macro_holds r.macros [])
        (all-append Known (option_map_or type_holds r.types []) (option_map_or value_holds r.values [])
        (table type_holds n s.types.items types)
        (table value_holds n s.values.items values))
        (table macro_holds n s.macros.items macros)
      where
        table : {X : Type 0} (holds : X → List HeldId) (n : Name) (es : List (Name × X)) → KnowsAll w (flat_map holds (map (λ e. e.1) es)) → KnowsAll w (option_map_or holds (find_name n es) [])
        table {X} holds n es all = by (find_name n es) refl
          where
            by : (o : Option X) → find_name n es ≡ o → KnowsAll w (option_map_or holds o [])
            by None e = tt
            by (Some x) e = found (λ (y : X). KnowsAll w (holds y)) (same_name n) es x (all-map (λ (y : X). KnowsAll w (holds y)) (λ e. e.1) es (all-flat_map Known holds (map (λ e. e.1) es) all)) e

    last-known : (ms : List MacroId) → KnowsAll w (map held.Macro ms) → ForSome (last_of ms) (λ m. IsTrue (knows w (held.Macro m)))
    last-known [] h = for_none (λ m. IsTrue (knows w (held.Macro m)))
    last-known (m ∷ []) h = for_some (λ m. IsTrue (knows w (held.Macro m))) m h.0
    last-known (m ∷ k ∷ ms) h = last-known (k ∷ ms) h.1

    legacy_in-known : (s : Scope) → KnowsAll w (scope_holds s) → (n : Name) → ForSome (legacy_in s n) (λ m. IsTrue (knows w (held.Macro m)))
    legacy_in-known s holds n = by (find_name n s.legacy_macros) refl
      where
        Fine_all : List MacroId → Type 0
        Fine_all ms = KnowsAll w (map held.Macro ms)

        legacies : KnowsAll w (legacies_hold s.legacy_macros)
        legacies =
            let beside = legacies_hold s.legacy_macros ++ lists_hold s in
            all-left Known (legacies_hold s.legacy_macros) (lists_hold s) (all-right Known (records_hold s) beside (all-right Known (bindings_hold s) (records_hold s ++ beside) holds))

        by : (o : Option (List MacroId)) → find_name n s.legacy_macros ≡ o → ForSome (elim o [ None ↦ None | Some ms ↦ last_of ms ]) (λ m. IsTrue (knows w (held.Macro m)))
        by None e = for_none (λ m. IsTrue (knows w (held.Macro m)))
        by (Some ms) e = last-known ms (found Fine_all (same_name n) s.legacy_macros ms (all-map Fine_all (λ e. e.1) s.legacy_macros (all-flat_map Known (map held.Macro) (map (λ e. e.1) s.legacy_macros) legacies)) e)

    -- what is said of a module's scope, where that of no module is fine
    pub of_scope : (Q : Scope → Type 0) → Q no_scope → ((s : Scope) → KnowsAll w (scope_holds s) → Q s) → (m : ModuleId) → Q (scope_of w m)
    of_scope Q none some m = by (slice_get w.places m.0) refl
      where
        at : (p : Place) → slice_get w.places m.0 ≡ Some p → (o : Option Module) → placed_module w p ≡ o → Q (option_map_or (λ (d : Module). d.scope) o no_scope)
        at p e None g = none
        at p e (Some d) g = some d.scope (all-right Known (vis_holds d.visibility) (scope_holds d.scope) (fine_module m p d e g))

        by : (o : Option Place) → slice_get w.places m.0 ≡ o → Q (option_map_or (λ (d : Module). d.scope) (option_and_then (placed_module w) o) no_scope)
        by None e = none
        by (Some p) e = at p e (placed_module w p) refl

    macro_use-known : (id : MapId) (n : Name) → ForSome (find_name n (macro_uses_of w id)) (λ e. IsTrue (knows w (held.Macro e.0)))
    macro_use-known id n = by (numbered_map w id) refl
      where
        Entry : Type 0
        Entry = MacroId × Option ExternCrateId

        Q : Option Entry → Type 0
        Q o = ForSome o (λ e. IsTrue (knows w (held.Macro e.0)))

        Known_entry : Entry → Type 0
        Known_entry e = IsTrue (knows w (held.Macro e.0))

        at : (m : Map) → KnowsAll w (macro_uses_hold m.macro_use) → (o : Option Entry) → find_name n m.macro_use ≡ o → Q o
        at m all None e = for_none (λ y. IsTrue (knows w (held.Macro y.0)))
        at m all (Some x) e = for_some (λ (y : Entry). IsTrue (knows w (held.Macro y.0))) x (found Known_entry (same_name n) m.macro_use x (all-map Known_entry (λ e. e.1) m.macro_use (all-map Known (λ (y : Entry). held.Macro y.0) (map (λ e. e.1) m.macro_use) all)) e)

        by : (o : Option Map) → numbered_map w id ≡ o → Q (find_name n (option_map_or (λ (m : Map). m.macro_use) o []))
        by None e = for_none (λ y. IsTrue (knows w (held.Macro y.0)))
        by (Some m) e = at m (all-right Known (option_map_or prelude_holds m.prelude []) (macro_uses_hold m.macro_use) (fine_preludes id m e)) (find_name n m.macro_use) refl

    prelude-known : (id : MapId) → ForSome (prelude_of w id) (λ m. IsTrue (knows w (held.Module m)))
    prelude-known id = by (numbered_map w id) refl
      where
        Q : Option ModuleId → Type 0
        Q o = ForSome o (λ m. IsTrue (knows w (held.Module m)))

        at : (o : Option (ModuleId × Option UseId)) → KnowsAll w (option_map_or prelude_holds o []) → Q (option_map (λ (p : ModuleId × Option UseId). p.0) o)
        at None h = for_none (λ m. IsTrue (knows w (held.Module m)))
        at (Some p) h = for_some (λ m. IsTrue (knows w (held.Module m))) p.0 h.0

        by : (o : Option Map) → numbered_map w id ≡ o → Q (option_and_then (λ (m : Map). option_map (λ (p : ModuleId × Option UseId). p.0) m.prelude) o)
        by None e = for_none (λ m. IsTrue (knows w (held.Module m)))
        by (Some m) e = at m.prelude (all-left Known (option_map_or prelude_holds m.prelude []) (macro_uses_hold m.macro_use) (fine_preludes id m e))

-- ---- Roots.

root-known : (own : ℕ → MapId → Type 0) (w : World) (ms : List Map) (k : ℕ) → AreMaps own w.places (outlines ms) → ForSome (option_map (λ (m : Map). m.root) (slice_get ms k)) (λ r. IsTrue (knows w (held.Module r)))
root-known own w ms k are = by (slice_get ms k) refl
  where
    by : (o : Option Map) → slice_get ms k ≡ o → ForSome (option_map (λ (m : Map). m.root) o) (λ r. IsTrue (knows w (held.Module r)))
    by None e = for_none (λ r. IsTrue (knows w (held.Module r)))
    by (Some m) e =
        let is = are k (outline m) (slice_get-map outline ms k ∙ ap (option_map outline) e) in
        for_some (λ r. IsTrue (knows w (held.Module r))) m.root (lt-ltb m.root.0 (length w.places) (slice_get_within w.places m.root.0 (record { map = m.id; index = 0; parent = None }) (is.1.listed 0 m.root None is.1.root)))

-- ---- The modules of a map.

-- what a look-up by number finds stands at a place
pub found-at : (es : Modules) (m : ModuleId) (d : Module) → module_at es m ≡ Some d → (i : ℕ) × (nth_module es i ≡ Some d) × (slice_get (map entry es) i ≡ Some (m, d.parent))
found-at [] m d h = cc
found-at (e ∷ es) m d h = by (nat_eq m.0 e.0.0) refl h (found-at es m d)
  where
    Found : Type 0
    Found = (i : ℕ) × (nth_module (e ∷ es) i ≡ Some d) × (slice_get (map entry (e ∷ es)) i ≡ Some (m, d.parent))

    by : (b : Bool) → nat_eq m.0 e.0.0 ≡ b → cond b (Some e.1) (module_at es m) ≡ Some d → (module_at es m ≡ Some d → (i : ℕ) × (nth_module es i ≡ Some d) × (slice_get (map entry es) i ≡ Some (m, d.parent))) → Found
    by true t g rest =
        let same : e.1 ≡ d = cc in
        let number : e.0.0 ≡ m.0 = sym (eqb-true m.0 e.0.0 t) in
        (0, ap Some same, λ i. Some (record { 0 = number i }, (same i).parent))
    by false t g rest = let r = rest g in (suc r.0, r.1, r.2)

pub map-lawful : (w : World) → IsWorld w → (id : MapId) (m : Map) → numbered_map w id ≡ Some m → IsMap w.places (outline m)
map-lawful w is id m e = by id.block e
  where
    by : (block : Option BlockId) → elim block [ None ↦ slice_get w.crate_maps id.krate.0 | Some b ↦ slice_get w.block_maps b.0 ] ≡ Some m → IsMap w.places (outline m)
    by None g = (is.crates id.krate.0 (outline m) (slice_get-map outline w.crate_maps id.krate.0 ∙ ap (option_map outline) g)).1
    by (Some b) g = (is.blocks b.0 (outline m) (slice_get-map outline w.block_maps b.0 ∙ ap (option_map outline) g)).1

pub lies-there : (w : World) → IsWorld w → (map : Map) (m : ModuleId) → numbered_map w map.id ≡ Some map → IsSome (module_at map.modules m) → map_of w m ≡ Some map
lies-there w is map m e some =
    let d = some-is (module_at map.modules m) some in
    let at = found-at map.modules m d.0 d.1 in
    ap (option_and_then (λ (p : Place). numbered_map w p.map)) ((map-lawful w is map.id map e).listed at.0 m d.0.parent at.2) ∙ e

pub placed-known : (w : World) (m : ModuleId) → IsSome (map_of w m) → IsTrue (knows w (held.Module m))
placed-known w m some = by (slice_get w.places m.0) refl some
  where
    by : (o : Option Place) → slice_get w.places m.0 ≡ o → IsSome (option_and_then (λ (p : Place). numbered_map w p.map) o) → IsTrue (knows w (held.Module m))
    by None e h = absurd (true≢false (sym h))
    by (Some p) e h = lt-ltb m.0 (length w.places) (slice_get_within w.places m.0 p e)

crate_of-known : (w : World) → IsWorld w → (m : ModuleId) → ForSome (option_map (λ (p : Place). p.map.krate) (slice_get w.places m.0)) (λ k. IsTrue (knows w (held.Crate k)))
crate_of-known w is m = by (slice_get w.places m.0) refl
  where
    by : (o : Option Place) → slice_get w.places m.0 ≡ o → ForSome (option_map (λ (p : Place). p.map.krate) o) (λ k. IsTrue (knows w (held.Crate k)))
    by None e = for_none (λ k. IsTrue (knows w (held.Crate k)))
    by (Some p) e =
        let n : length (outlines w.crate_maps) ≡ length w.crate_maps = length-map w.crate_maps outline in
        let l = is.in_crates m p e in
        for_some (λ k. IsTrue (knows w (held.Crate k))) p.map.krate (lt-ltb p.map.krate.0 (length w.crate_maps) (omega arith))

pub IsSound-checked : (w : World) → IsChecked w → IsBuilt w → IsSound w
unfolding tree_of
IsSound-checked w checked is = record {
  bound = λ m n. of_scope w checked (λ s. KnowsAll w (res_holds (bound_in s n))) tt (λ s h. bound_of w checked s h n) m;
  roots = λ k. root-known is_crate_id w w.crate_maps k.0 is.0.crates;
  block_roots = λ b. root-known is_block_id w w.block_maps b.0 is.0.blocks;
  preludes = prelude-known w checked;
  macro_uses = macro_use-known w checked;
  legacies = λ m n. of_scope w checked (λ s. ForSome (legacy_in s n) (λ l. IsTrue (knows w (held.Macro l)))) (for_none (λ l. IsTrue (knows w (held.Macro l)))) (λ s h. legacy_in-known w checked s h n) m;
  lies = lies-there w is.0;
  placed = placed-known w;
  variants = variant-known w is.1;
  own_variants = variant-own w is.1;
  use_modules = use-among w is.1;
  item_modules = def-among w is.1;
  macro_modules = macro-among w is.1;
  variant_enums = variant-enum w is.1;
  crates = crate_of-known w is.0;
}
