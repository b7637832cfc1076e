-- A world in which a module gets its own scope again is that world.
use Rattle.std.proofs.Common.{◌≡◌, ◌∙◌, ℕ, List, Option, None, Some, ap, sym, refl, slice_get, slice_set}
use Rattle.std.specs.Option.{option_map_or, option_and_then}
use Rattle.std.proofs.lemmas.List.{set-get_or}
use Rattle.std.proofs.lemmas.Option.{get_or_from_slice_get}
use Rattle.dm_def_map.specs.TableLaws.{set_value_at-own}
use Rattle.dm_base.specs.declared.ids.ModuleId.{ModuleId}
use Rattle.dm_base.specs.declared.ids.MapId.{MapId}
use Rattle.dm_base.specs.declared.ids.BlockId.{BlockId}
use Rattle.dm_scope.specs.Scope.{Scope, no_scope}
use Rattle.dm_def_map.specs.Maps.{Map, Module, nth_module, put_scope, map_with_scope}
use Rattle.dm_maps.specs.declared.place.Place.{Place}
use Rattle.dm_maps.specs.Maps.{Maps, map_at, put_map, maps_with_scope}
use Rattle.dm_maps.specs.World.{World, maps_of, with_maps, scope_of, placed_module, place_of, with_scope, with_scope_in}

-- a list with the element at a place put there again
pub set-own : {A : Type 0} (xs : List A) (k : ℕ) (x : A) → slice_get xs k ≡ Some x → slice_set xs k x ≡ xs
set-own xs k x is = ap (slice_set xs k) (sym (get_or_from_slice_get xs k x x is)) ∙ set-get_or xs k x

abbrev scope_in : Option Module → Scope
scope_in o = option_map_or (λ d. d.scope) o no_scope

map-own : (m : Map) (k : ℕ) → map_with_scope m k (scope_in (nth_module m.modules k)) ≡ m
map-own m k = ap (λ es. record m { modules = es }) (by (nth_module m.modules k) refl)
  where
    by : (o : Option Module) → nth_module m.modules k ≡ o → put_scope m.modules k o (scope_in o) ≡ m.modules
    by None is = refl
    by (Some d) is = set_value_at-own m.modules k d is

put-own : (ms : Maps) (id : MapId) (m : Map) → map_at ms id ≡ Some m → put_map ms id m ≡ ms
put-own ms id m is = by id.block is
  where
    by : (b : Option BlockId) → elim b as (λ x. Option Map) [ None ↦ slice_get ms.crates id.krate.0 | Some b ↦ slice_get ms.blocks b.0 ] ≡ Some m
        → elim b as (λ x. Maps) [ None ↦ record ms { crates = slice_set ms.crates id.krate.0 m } | Some b ↦ record ms { blocks = slice_set ms.blocks b.0 m } ] ≡ ms
    by None is = ap (λ l. record ms { crates = l }) (set-own ms.crates id.krate.0 m is)
    by (Some b) is = ap (λ l. record ms { blocks = l }) (set-own ms.blocks b.0 m is)

maps-own : (w : World) (p : Place) → maps_with_scope (maps_of w) p.map p.index (scope_in (placed_module w p)) ≡ maps_of w
maps-own w p = by (map_at (maps_of w) p.map) refl
  where
    by : (o : Option Map) → map_at (maps_of w) p.map ≡ o
        → option_map_or (λ m. put_map (maps_of w) p.map (map_with_scope m p.index (scope_in (option_and_then (λ (m : Map). nth_module m.modules p.index) o)))) o (maps_of w) ≡ maps_of w
    by None is = refl
    by (Some m) is = ap (put_map (maps_of w) p.map) (map-own m p.index) ∙ put-own (maps_of w) p.map m is

-- A module that gets its own scope leaves the world.
pub scope-own : (w : World) (m : ModuleId) → with_scope w m (scope_of w m) ≡ w
scope-own w m = by (place_of w m)
  where
    by : (o : Option Place) → with_scope_in w o (scope_in (option_and_then (placed_module w) o)) ≡ w
    by None = refl
    by (Some p) = ap (with_maps w) (maps-own w p)
