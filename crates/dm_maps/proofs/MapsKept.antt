-- What is set in maps, beside their modules, keeps what holds of every world.
use Rattle.std.proofs.Common.{◌≡◌, ℕ, Bool, true, false, cond, nat_eq, List, [], ◌∷◌, Option, Some, None, length, map, set, slice_get, refl, subst, sym, ap}
use Rattle.dm_maps.proofs.Ids.{Crate, MapId, ModuleId}
use Rattle.dm_def_map.specs.declared.map_change.MapChange.{MapChange}
use Rattle.dm_def_map.specs.declared.map_change.MapChange.TheVariants.{Prelude, MacroUse, MacroDef, Helper, Diagnostic}
use Rattle.dm_maps.specs.BuildCrateData.{map_with_shared, with_shared, sharing}
use Rattle.dm_def_map.specs.CrateData.{CrateData}
use Rattle.dm_scope.specs.Scope.{Scope}
use Rattle.dm_def_map.specs.Maps.{Map, Module, Modules, nth_module, put_scope, with_scope_at, map_with_scope}
use Rattle.dm_maps.specs.World.{World, maps_of, with_maps}
use Rattle.dm_maps.specs.BuildMaps.{with_map}
use Rattle.dm_def_map.specs.MapChanges.{changed}
use Rattle.dm_maps.specs.Trees.{Outline, outline, outlines, containers_of, IsWorldOf, IsWorld}
use Rattle.dm_maps.proofs.MapWrites.{put-cases, with-cases}
use Rattle.dm_maps.proofs.ModuleGrowth.{entry, entries-set, map-set_own}

-- what leaves a map's id, root and modules, and the module that contains its block
pub record Keeps (f : Map → Map) : Type 0 where
  pub shape : (m : Map) → outline (f m) ≡ outline m
  pub around : (m : Map) → (f m).parent ≡ m.parent

pub IsWorld-with_map : (w : World) (id : MapId) (f : Map → Map) → Keeps f → IsWorld w → IsWorld (with_map w id f)
IsWorld-with_map w id f keeps is =
    let P : List Outline → List Outline → List (Option ModuleId) → Type 0 = λ cs bs inside. IsWorldOf w.places cs bs inside (length w.local_maps) in
    let shapes : (ms : List Map) (k : ℕ) (x : Map) → slice_get ms k ≡ Some x → outlines ms ≡ outlines (set ms k (f x)) = λ ms k x g. sym (map-set_own outline ms k x (f x) g (keeps.shape x)) in
    let around : (b : ℕ) (x : Map) → slice_get w.block_maps b ≡ Some x → containers_of w.block_maps ≡ containers_of (set w.block_maps b (f x)) = λ b x g. sym (map-set_own (λ (y : Map). y.parent) w.block_maps b x (f x) g (keeps.around x)) in
    with-cases (maps_of w) id f (λ ms. IsWorld (with_maps w ms)) is
    (λ x e. put-cases (maps_of w) id x (f x) (λ ms. IsWorld (with_maps w ms)) e
    (λ none g. subst (λ cs. P cs (outlines w.block_maps) (containers_of w.block_maps)) (shapes w.crate_maps id.krate.0 x g) is)
    (λ b some g. subst (λ (z : List Outline × List (Option ModuleId)). P (outlines w.crate_maps) z.0 z.1) (λ i. (shapes w.block_maps b.0 x g i, around b.0 x g i)) is))

pub Keeps-changed : (change : MapChange) → Keeps (changed change)
Keeps-changed (Prelude p) = record { shape = λ m. refl; around = λ m. refl }
Keeps-changed (MacroUse n e) = record { shape = λ m. refl; around = λ m. refl }
Keeps-changed (MacroDef a d) = record { shape = λ m. refl; around = λ m. refl }
Keeps-changed (Helper a h) = record { shape = λ m. refl; around = λ m. refl }
Keeps-changed (Diagnostic d) = record { shape = λ m. refl; around = λ m. refl }

entries-with_scope : (es : Modules) (i : ℕ) (s : Scope) → map entry (with_scope_at es i s) ≡ map entry es
entries-with_scope es i s = by (nth_module es i) refl
  where
    by : (o : Option Module) → nth_module es i ≡ o → map entry (put_scope es i o s) ≡ map entry es
    by None e = refl
    by (Some d) e = entries-set es i d (record d { scope = s }) e refl

pub Keeps-scoped : (i : ℕ) (s : Scope) → Keeps (λ m. map_with_scope m i s)
Keeps-scoped i s = record { shape = λ m. ap (λ es. record (outline m) { modules = es }) (entries-with_scope m.modules i s); around = λ m. refl }

-- ---- New data of a crate.

-- it leaves what each map has beside its data
pub given-keeps : {A : Type 0} (f : Map → A) → ((m : Map) (d : CrateData) → f (record m { shared = d }) ≡ f m) → (k : Crate) (d : CrateData) (m : Map) → f (map_with_shared k d m) ≡ f m
given-keeps f same k d m = by (nat_eq m.id.krate.0 k.0)
  where
    by : (b : Bool) → f (cond b (record m { shared = d }) m) ≡ f m
    by true = same m d
    by false = refl

pub all-given-keep : {A : Type 0} (f : Map → A) → ((m : Map) (d : CrateData) → f (record m { shared = d }) ≡ f m) → (k : Crate) (d : CrateData) (ms : List Map) → map f (with_shared k d ms) ≡ map f ms
all-given-keep f same k d [] = refl
all-given-keep f same k d (m ∷ ms) = λ i. given-keeps f same k d m i ∷ all-given-keep f same k d ms i

pub containers-shared : (k : Crate) (d : CrateData) (ms : List Map) → containers_of (with_shared k d ms) ≡ containers_of ms
containers-shared = all-given-keep (λ m. m.parent) (λ m d. refl)

pub IsWorld-sharing : (w : World) (k : Crate) (d : CrateData) → IsWorld w → IsWorld (sharing w k d)
IsWorld-sharing w k d is =
    let P : (List Outline × List Outline × List (Option ModuleId)) → Type 0 = λ z. IsWorldOf w.places z.0 z.1 z.2 (length w.local_maps) in
    let outlines_stay = all-given-keep outline (λ m e. refl) k d in
    subst P (λ i. (sym (outlines_stay w.crate_maps) i, sym (outlines_stay w.block_maps) i, sym (containers-shared k d w.block_maps) i)) is
