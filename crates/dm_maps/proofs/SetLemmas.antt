-- What is set in a builder leaves what is known, and scopes; so does another scope for one module, but for that one.
use Rattle.std.proofs.Common.{◌≡◌, ◌∙◌, ℕ, List, Option, None, Some, length, slice_get, refl, sym, ap, arith, inl, inr, true≢false, IsSome, IsTrue}
use Rattle.std.proofs.lemmas.List.{length-map}
use Rattle.std.proofs.lemmas.Option.{slice_get-map}
use Rattle.std.specs.Option.{option_map, option_map_or}
use Rattle.dm_maps.proofs.Ids.{BlockId, Crate, MapId, ModuleId, Place}
use Rattle.dm_scope.specs.Scope.{Scope, no_scope}
use Rattle.dm_maps.specs.declared.check.held.HeldId.TheVariants as held
use Rattle.dm_def_map.specs.CrateData.{CrateData}
use Rattle.dm_def_map.specs.Maps.{LocalMap, Map, Module}
use Rattle.dm_maps.specs.Added.{IsGrown, IsScoped}
use Rattle.dm_maps.specs.Build.{with_rules}
use Rattle.dm_maps.specs.BuildCrateData.{map_with_shared, sharing, with_shared}
use Rattle.dm_maps.specs.BuildMaps.{with_map}
use Rattle.dm_maps.specs.Known.{knows}
use Rattle.dm_maps.specs.Maps.{map_at}
use Rattle.dm_maps.specs.ScopeTables.{scope_at_place}
use Rattle.dm_maps.specs.Trees.{IsWorld}
use Rattle.dm_maps.specs.World.{World, maps_of, module_of, scope_if_known, scope_of, with_scope}
use Rattle.dm_maps.proofs.MapsKept.{given-keeps}
use Rattle.dm_maps.proofs.MapWrites.{put-other, with-cases}
use Rattle.dm_maps.proofs.ScopeWrites.{knows-scoped, scope_of-other, scope_of-own}
use Rattle.dm_maps.proofs.WorldFacts.{scope-there}
use Rattle.dm_maps.specs.declared.rules.Rules.{Rules}
use Rattle.dm_def_map.specs.ItemTables.{ItemTables}
use Rattle.dm_maps.proofs.GrownLemmas.{grows, widens, scope_in, scope_by, scopes-kept, count-with}

-- ---- Another scope for a module.

pub scoped : (w : World) → IsWorld w → (m : ModuleId) → IsTrue (knows w (held.Module m)) → (s : Scope) → IsScoped w (with_scope w m s) m s
scoped w is m known s = record { id = knows-scoped w m s; own = scope_of-own s w m (scope-there w is m known); others = scope_of-other s w is m }

pub scope-read : (o : Option Module) → IsSome (option_map (λ (d : Module). d.scope) o) → option_map (λ (d : Module). d.scope) o ≡ Some (option_map_or (λ (d : Module). d.scope) o no_scope)
scope-read None e = absurd (true≢false (sym e))
scope-read (Some d) e = refl

-- each module that is known has one
pub scope-lent : (w : World) → IsWorld w → (m : ModuleId) → IsTrue (knows w (held.Module m)) → scope_if_known w m ≡ Some (scope_of w m)
scope-lent w is m known = scope-read (module_of w m) (scope-there w is m known)

-- ---- What is set beside modules and scopes.

-- where the lists by which ids are known stay, and the scopes
set-beside : (w v : World) → v.places ≡ w.places → length v.crate_maps ≡ length w.crate_maps → v.uses ≡ w.uses → v.items ≡ w.items → v.variants ≡ w.variants → v.macros ≡ w.macros
    → ((k : ModuleId) → scope_of v k ≡ scope_of w k) → IsGrown w v
set-beside w v places crates uses items variants macros scopes =
    let at = ap (λ (l : List Place). length l) places in
    grows w v (widens w v (omega arith) (omega arith) uses items variants macros) scopes (λ k h. ap (λ l. slice_get l k.0) places)

-- maps, but for their modules
pub set-maps : (w : World) (id : MapId) (f : Map → Map) → ((x : Map) → (f x).modules ≡ x.modules) → IsGrown w (with_map w id f)
set-maps w id f keeps = set-beside w (with_map w id f) refl (count-with (maps_of w) id f) refl refl refl refl (scopes-kept w (with_map w id f) same refl)
  where
    same : (q : Place) → scope_at_place (with_map w id f) q ≡ scope_at_place w q
    same q =
        with-cases (maps_of w) id f (λ ms. scope_by (map_at ms q.map) q.index ≡ scope_at_place w q) refl
        (λ x e. elim (put-other (maps_of w) id q.map x (f x) e) [
          | inl h ↦ ap (λ o. scope_by o q.index) h
          | inr h ↦ ap (λ o. scope_by o q.index) h.1 ∙ ap (λ es. scope_in es q.index) (keeps x) ∙ sym (ap (λ o. scope_by o q.index) h.0)
        ])

-- the data of a crate
pub set-data : (w : World) (k : Crate) (d : CrateData) → IsGrown w (sharing w k d)
set-data w k d = set-beside w (sharing w k d) refl (length-map w.crate_maps (map_with_shared k d)) refl refl refl refl (scopes-kept w (sharing w k d) same refl)
  where
    mapped : (o : Option Map) (j : ℕ) → scope_by (option_map (map_with_shared k d) o) j ≡ scope_by o j
    mapped None j = refl
    mapped (Some x) j = given-keeps (λ (y : Map). scope_in y.modules j) (λ y e. refl) k d x

    same : (q : Place) → scope_at_place (sharing w k d) q ≡ scope_at_place w q
    same q = by q.map.block
      where
        by : (b : Option BlockId) → scope_by (elim b [ None ↦ slice_get (with_shared k d w.crate_maps) q.map.krate.0 | Some y ↦ slice_get (with_shared k d w.block_maps) y.0 ]) q.index
            ≡ scope_by (elim b [ None ↦ slice_get w.crate_maps q.map.krate.0 | Some y ↦ slice_get w.block_maps y.0 ]) q.index
        by None = ap (λ o. scope_by o q.index) (slice_get-map (map_with_shared k d) w.crate_maps q.map.krate.0) ∙ mapped (slice_get w.crate_maps q.map.krate.0) q.index
        by (Some y) = ap (λ o. scope_by o q.index) (slice_get-map (map_with_shared k d) w.block_maps y.0) ∙ mapped (slice_get w.block_maps y.0) q.index

-- extern preludes, tables that belong to no map, and the version of the rules
pub set-externs : (w : World) (ls : List LocalMap) → IsGrown w (record w { local_maps = ls })
set-externs w ls = set-beside w (record w { local_maps = ls }) refl refl refl refl refl refl (λ k. refl)

pub set-tables : (w : World) (t : ItemTables) → IsGrown w (record w { item_tables = t })
set-tables w t = set-beside w (record w { item_tables = t }) refl refl refl refl refl refl (λ k. refl)

pub set-rules : (w : World) (r : Rules) → IsGrown w (with_rules w r)
set-rules w r = set-beside w (with_rules w r) refl refl refl refl refl refl (λ k. refl)
