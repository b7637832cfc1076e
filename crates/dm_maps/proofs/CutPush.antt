-- A push under a name outside a list leaves the world restricted to that list.
use Rattle.std.proofs.Common.{◌≡◌, ℕ, zero, suc, Bool, true, false, cond, List, [], ◌∷◌, Option, None, Some, refl, sym, ◌∙◌, ap, map}
use Rattle.std.specs.Cmp.Lexicographic.{nat_list_eq_equiv}
use Rattle.std.specs.List.{cons_option}
use Rattle.std.specs.Option.{option_map, option_map_or, option_and_then}
use Rattle.std.proofs.lemmas.Bool.{or_parts}
use Rattle.indexmap.specs.IndexMap.{set_value_at, insert_entry}
use Rattle.dm_maps.proofs.Ids.{ImportOrExternCrate, ModuleId, Name, Place, find_name, same_name}
use Rattle.dm_base.specs.declared.per_ns.Item.{Item}
use Rattle.dm_base.specs.declared.per_ns.PerNs.{PerNs}
use Rattle.dm_base.specs.declared.visibility.Visibility.TheVariants.{Public}
use Rattle.dm_scope.specs.Shadowing as shadowing
use Rattle.dm_scope.specs.Bindings as b
use Rattle.dm_scope.specs.Bindings.{Bound}
use Rattle.dm_scope.specs.Flags.{Flags, Globs, has_flag}
use Rattle.dm_scope.specs.Push.{types_reading, values_reading, macros_reading, scope_after}
use Rattle.dm_scope.specs.Scope.{Scope, no_scope}
use Rattle.dm_def_map.specs.Maps.{Map, Module, Modules, fresh_module, nth_module, put_scope, map_with_scope}
use Rattle.dm_maps.proofs.MapWrites.{put-cases, with-cases}
use Rattle.dm_maps.proofs.ModuleGrowth.{map-set_own}
use Rattle.dm_maps.specs.PushRes.{with_push}
use Rattle.dm_maps.specs.Maps.{Maps}
use Rattle.dm_maps.specs.World.{World, maps_of, with_maps, place_of, scope_of, with_scope, with_scope_in, placed_module}
use Rattle.dm_maps.specs.Cut.{among, kept, cut_bound, cut_scope, cut_module, cut_map, cut, no_origin}
use Rattle.dm_maps.specs.CutLaws.{find-other}

pub kept-insert : {A : Type 0} (N : List Name) (n : Name) (v : A) → among N n ≡ false → (es : List (Name × A)) → kept N (insert_entry same_name es n v) ≡ kept N es
kept-insert [] n v h es = refl
kept-insert (k ∷ N) n v h es =
    let parts = or_parts (same_name n k) (among N n) h in
    λ i. cons_option (option_map (λ w. (k, w)) (find-other k n v (nat_list_eq_equiv.symm k n ∙ parts.0) es i)) (kept-insert N n v parts.1 es i)

bound-after : {D I : Type 0} (r : shadowing.Reading D I) (N : List Name) (n : Name) → among N n ≡ false → (s : Bound D I) (fs : Flags) (m : ModuleId) (item : Option (Item D I)) (by : Option ImportOrExternCrate)
    → cut_bound N (b.bound_after r s fs m n item by) ≡ cut_bound N s
bound-after r N n h s fs m None by = refl
bound-after r N n h s fs m (Some x) by = go (shadowing.writes r (find_name n s.items) (has_flag fs m n) x (shadowing.import_of r by))
  where
    go : (c : Bool) → cut_bound N (cond c (b.bound r s n x (shadowing.import_of r by)) s) ≡ cut_bound N s
    go true = ap (λ es. record { items = es; records = [] }) (kept-insert N n (b.stored r x (shadowing.import_of r by)) h s.items)
    go false = refl

scope-pushed : (N : List Name) (n : Name) → among N n ≡ false → (s : Scope) (g : Globs) (m : ModuleId) (x : PerNs) (by : Option ImportOrExternCrate) → cut_scope N (scope_after s g m n x by) ≡ cut_scope N s
scope-pushed N n h s g m x by = λ i. record (cut_scope N s) {
  types = bound-after types_reading N n h s.types g.types m x.types by i;
  values = bound-after values_reading N n h s.values g.values m x.values by i;
  macros = bound-after macros_reading N n h s.macros g.macros m x.macros by i;
}

abbrev cut_entries : List Name → Modules → Modules
cut_entries N es = map (λ e. (e.0, cut_module N e.1)) es

entries-cut : (N : List Name) (es : Modules) (k : ℕ) (d e : Module) → nth_module es k ≡ Some d → cut_module N e ≡ cut_module N d → cut_entries N (set_value_at es k e) ≡ cut_entries N es
entries-cut N [] k d e h p = refl
entries-cut N (x ∷ es) zero d e h p = let same : x.1 ≡ d = cc in ap (λ o. (x.0, o) ∷ cut_entries N es) (p ∙ ap (cut_module N) (sym same))
entries-cut N (x ∷ es) (suc k) d e h p = ap (λ l. (x.0, cut_module N x.1) ∷ l) (entries-cut N es k d e h p)

abbrev scope_of_module : Option Module → Scope
scope_of_module o = option_map_or (λ d. d.scope) o no_scope

map-cut : (N : List Name) (m : Map) (k : ℕ) (s : Scope) → cut_scope N s ≡ cut_scope N (scope_of_module (nth_module m.modules k)) → cut_map N (map_with_scope m k s) ≡ cut_map N m
map-cut N m k s same = ap (λ es. record (cut_map N m) { modules = es }) (go (nth_module m.modules k) refl same)
  where
    go : (o : Option Module) → nth_module m.modules k ≡ o → cut_scope N s ≡ cut_scope N (scope_of_module o)
        → cut_entries N (put_scope m.modules k o s) ≡ cut_entries N m.modules
    go None is p = refl
    go (Some d) is p = entries-cut N m.modules k d (record d { scope = s }) is (ap (λ c. record (fresh_module no_origin Public d.parent) { scope = c }) p)

world-cut : (w : World) (N : List Name) (p : Place) (s : Scope) → cut_scope N s ≡ cut_scope N (scope_of_module (placed_module w p)) → cut (with_scope_in w (Some p) s) N ≡ cut w N
world-cut w N p s same =
    let P : Maps → Type 0 = λ ms. cut (with_maps w ms) N ≡ cut w N in
    with-cases (maps_of w) p.map (λ x. map_with_scope x p.index s) P refl
    (λ x e. let y = map_with_scope x p.index s in
    let stays : cut_map N y ≡ cut_map N x = map-cut N x p.index s (same ∙ ap (λ o. cut_scope N (scope_of_module (option_and_then (λ (m : Map). nth_module m.modules p.index) o))) e) in
    put-cases (maps_of w) p.map x y P e
    (λ none g. ap (λ l. record (cut w N) { crate_maps = l }) (map-set_own (cut_map N) w.crate_maps p.map.krate.0 x y g stays))
    (λ b some g. ap (λ l. record (cut w N) { block_maps = l }) (map-set_own (cut_map N) w.block_maps b.0 x y g stays)))

-- a change of one scope that leaves what is cut of it leaves what is cut of the world
pub with_scope-cut : (w : World) (N : List Name) (m : ModuleId) (s : Scope) → cut_scope N s ≡ cut_scope N (scope_of w m) → cut (with_scope w m s) N ≡ cut w N
with_scope-cut w N m s same = go (place_of w m) same
  where
    go : (o : Option Place) → cut_scope N s ≡ cut_scope N (scope_of_module (option_and_then (placed_module w) o)) → cut (with_scope_in w o s) N ≡ cut w N
    go None p = refl
    go (Some q) p = world-cut w N q s p

-- a push leaves the cut by each list without its name
pub push-cut : (w : World) (N : List Name) (g : Globs) (m : ModuleId) (n : Name) (x : PerNs) (by : Option ImportOrExternCrate) → among N n ≡ false → cut (with_push w g m n x by) N ≡ cut w N
push-cut w N g m n x by h = with_scope-cut w N m (scope_after (scope_of w m) g m n x by) (scope-pushed N n h (scope_of w m) g m x by)
