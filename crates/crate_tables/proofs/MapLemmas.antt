-- Each crate of a graph has its own map at its number, while crates are filled.
use Rattle.std.proofs.Common.{◌≡◌, ◌≤◌, ◌<◌, ◌+◌, ◌∙◌, ℕ, suc, zero, Bool, true, false, not, List, [], ◌∷◌, ◌++◌, Option, None, Some, length, length-append, drop, map, nat_eq, nat_lt, slice_get, ap, arith, refl, subst, sym}
use Rattle.std.proofs.lemmas.Bool.{eq-eqb, ltb-false, ltb-true}
use Rattle.std.specs.Option.{option_map, option_map_or}
use Rattle.std.specs.List.{flat_map}
use Rattle.crate_tables.proofs.FitSteps.{Longer}
use Rattle.crate_tables.proofs.MoreCrates.{more-all_items, more-modules, more-prepared}
use Rattle.crate_tables.proofs.MoreSteps.{IsMore, ids_of, more-crate, more-further, more-prelude, more-same}
use Rattle.crate_items.specs.CrateGraphs.{Data, Graph}
use Rattle.crate_items.specs.DeclaredItems.{declared_of}
use Rattle.crate_items.specs.Modules.{Listing}
use Rattle.crate_tables.specs.CrateFillings as filling
use Rattle.crate_tables.specs.CrateMaps.{with_crate_modules, root_alone}
use Rattle.crate_tables.specs.CrateRoots.{root_id, with_roots}
use Rattle.crate_tables.specs.ExternCrates.{Linked}
use Rattle.crate_tables.specs.LibraryNames.{library_name}
use Rattle.crate_tables.specs.NewModules.{CrateView, in_edition}
use Rattle.crate_tables.specs.StandardPreludes.{own_map, with_crate_prelude}
use Rattle.crate_tables.specs.declared.extern_crates.ExternCrateRow.{ExternCrateRow}
use Rattle.crate_tables.specs.declared.library_name.LibraryName.{LibraryName}
use Rattle.crate_items.specs.declared.files.dependency.Dependency.{Dependency}
use Rattle.dm_base.specs.declared.ids.Crate.{Crate}
use Rattle.dm_base.specs.declared.ids.MapId.{MapId}
use Rattle.dm_base.specs.declared.ids.ModuleId.{ModuleId}
use Rattle.dm_base.specs.declared.ids.UseId.{UseId}
use Rattle.dm_def_map.specs.Maps.{Map}
use Rattle.dm_maps.specs.Build.{no_world, with_crate}
use Rattle.dm_maps.specs.BuildMaps.{lacks_map}
use Rattle.dm_maps.specs.World.{World}

-- ---- A map is there by its id.

abbrev lacks : List Map → Crate → Bool
lacks ms k = option_map_or (λ (m : Map). not (nat_eq m.id.krate.0 k.0)) (slice_get ms k.0) true

get-ids : (ms : List Map) (i : ℕ) → slice_get (ids_of ms) i ≡ option_map (λ (m : Map). m.id) (slice_get ms i)
get-ids [] zero = refl
get-ids [] (suc i) = refl
get-ids (m ∷ ms) zero = refl
get-ids (m ∷ ms) (suc i) = get-ids ms i

lacks-by : (ms : List Map) (k : Crate) (id : MapId) → slice_get (ids_of ms) k.0 ≡ Some id → not (nat_eq id.krate.0 k.0) ≡ false → lacks ms k ≡ false
lacks-by ms k id e own = by (slice_get ms k.0) (sym (get-ids ms k.0) ∙ e)
  where
    by : (o : Option Map) → option_map (λ (m : Map). m.id) o ≡ Some id → option_map_or (λ (m : Map). not (nat_eq m.id.krate.0 k.0)) o true ≡ false
    by None h = cc
    by (Some m) h = let same : m.id ≡ id = cc in ap (λ (x : MapId). not (nat_eq x.krate.0 k.0)) same ∙ own

lacks-on : (ms ns : List Map) (k : Crate) → Longer (ids_of ms) (ids_of ns) → lacks ms k ≡ false → lacks ns k ≡ false
lacks-on ms ns k longer h = by (slice_get ms k.0) refl h
  where
    by : (o : Option Map) → slice_get ms k.0 ≡ o → option_map_or (λ (m : Map). not (nat_eq m.id.krate.0 k.0)) o true ≡ false → lacks ns k ≡ false
    by None e g = cc
    by (Some m) e g = lacks-by ns k m.id (longer k.0 m.id (get-ids ms k.0 ∙ ap (option_map (λ (m : Map). m.id)) e)) g

pub maps-on : (w v : World) (n : ℕ) → IsMore w v → filling.HasMaps w n → filling.HasMaps v n
maps-on w v n more has k less = lacks-on w.crate_maps v.crate_maps k more.ids (has k less)

pub maps-prelude : (w : World) (n : ℕ) (k : Crate) (p : Option (ModuleId × Option UseId)) (v : World) → v ≡ with_crate_prelude w k p → filling.HasMaps w n → filling.HasMaps v n
maps-prelude w n k p v same has = subst (λ (x : World). filling.HasMaps x n) (sym same) (maps-on w (with_crate_prelude w k p) n (more-prelude w (own_map k) p) has)

-- ---- Roots

abbrev own : ℕ → MapId
own i = record { krate = record { 0 = i }; block = None }

abbrev AreOwn : List Map → Type 0
AreOwn ms = (i : ℕ) → i < length ms → slice_get (ids_of ms) i ≡ Some (own i)

get-front : (xs ys : List Map) (i : ℕ) (x : MapId) → slice_get (ids_of xs) i ≡ Some x → slice_get (ids_of (xs ++ ys)) i ≡ Some x
get-front [] ys zero x e = cc
get-front [] ys (suc i) x e = cc
get-front (z ∷ zs) ys zero x e = e
get-front (z ∷ zs) ys (suc i) x e = get-front zs ys i x e

get-last : (xs : List Map) (m : Map) → slice_get (ids_of (xs ++ m ∷ [])) (length xs) ≡ Some m.id
get-last [] m = refl
get-last (x ∷ xs) m = get-last xs m

own-push : (ms : List Map) (m : Map) → m.id ≡ own (length ms) → AreOwn ms → AreOwn (ms ++ m ∷ [])
own-push ms m is are i less = by (nat_lt i (length ms)) refl
  where
    by : (b : Bool) → nat_lt i (length ms) ≡ b → slice_get (ids_of (ms ++ m ∷ [])) i ≡ Some (own i)
    by true e = get-front ms (m ∷ []) i (own i) (are i (ltb-true i (length ms) e))
    by false e =
        let at : i ≡ length ms = omega (arith, less, ltb-false i (length ms) e, length-append ms (m ∷ [])) in
        subst (λ (j : ℕ). slice_get (ids_of (ms ++ m ∷ [])) j ≡ Some (own j)) (sym at) (get-last ms m ∙ ap (λ (x : MapId). Some x) is)

roots-own : (w : World) (g : Graph) → AreOwn w.crate_maps → AreOwn (with_roots w g).crate_maps
roots-own w [] are = are
roots-own w (d ∷ ds) are = roots-own (with_crate w d.edition (in_edition d.edition d.root_file_id)) ds (own-push w.crate_maps _ refl are)

roots-count : (w : World) (g : Graph) → length (with_roots w g).crate_maps ≡ length w.crate_maps + length g
roots-count w [] = omega arith
roots-count w (d ∷ ds) =
    let v = with_crate w d.edition (in_edition d.edition d.root_file_id) in
    let rest = roots-count v ds in
    omega (arith, length-append w.crate_maps)

same-own : (n : ℕ) → not (nat_eq n n) ≡ false
same-own n = ap not (eq-eqb n n refl)

roots-maps : (g : Graph) → filling.HasMaps (with_roots no_world g) (length g)
roots-maps g k less =
    let v = with_roots no_world g in
    let count = roots-count no_world g in
    let none : AreOwn [] = λ i l. absurd (let f : ⊥ = omega (arith, l) in f) in
    lacks-by v.crate_maps k (own k.0) (roots-own no_world g none k.0 (omega (arith, less, count))) (same-own k.0)

-- ---- Crates

list-more : (c : CrateView) (ds : List Dependency) (lib : Option LibraryName) (w : World) (rows : List ExternCrateRow) (s : Linked) → filling.HasList c ds lib w rows s → IsMore w s.world
list-more c ds lib w rows s has =
    let items = flat_map (declared_of c.edition c.list c.files) has.items in
    let m = with_crate_modules c w (root_id c.krate) in
    let all = filling.with_all_items c ds (filling.with_rows m rows) items in
    subst (λ (x : Linked). IsMore w x.world) (sym has.filled)
    (more-further w m.world all.world (more-modules c (record { world = w; table = root_alone (root_id c.krate) }) (drop 1 c.list.modules)) (more-all_items c items ds (filling.with_rows m rows)).world)

crate-more : (r : filling.Reading) (k : Crate) (d : Data) (w : World) (rows : List ExternCrateRow) (l : Listing) (s : Linked) → filling.IsCrateIn r k d w rows l s → IsMore w s.world
crate-more r k d w rows l s is =
    let v = filling.prepared w k (filling.attributes_of r.files d l) d.dependencies in
    more-further w v s.world (more-prepared w k (filling.attributes_of r.files d l) d.dependencies)
    (list-more (filling.view_of r.files k d l) d.dependencies (library_name d.edition (filling.attributes_of r.files d l) d.dependencies) v rows s is.items)

crates-more : (r : filling.Reading) (n : ℕ) (g : Graph) (c all : filling.Crates) → filling.AreCratesFrom r n g c all → IsMore c.world all.world
crates-more r n [] c all same = subst (λ (x : filling.Crates). IsMore c.world x.world) (sym same) (more-same c.world)
crates-more r n (d ∷ ds) c all (l, s, one, rest) =
    more-further c.world s.world all.world (crate-more r (record { 0 = n }) d c.world c.rows l s one) (crates-more r (n + 1) ds (filling.with_crate c l s) all rest)

-- crates that are filled have theirs
pub filled-maps : (r : filling.Reading) (g : Graph) (all : filling.Crates) → filling.AreCratesFrom r 0 g (filling.no_crates (with_roots no_world g)) all → filling.HasMaps all.world (length g)
filled-maps r g all filled = maps-on (with_roots no_world g) all.world (length g) (crates-more r 0 g (filling.no_crates (with_roots no_world g)) all filled) (roots-maps g)
