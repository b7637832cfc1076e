-- A world that has grown still knows the path resolutions that it knew: their ids and maps stay known.
use Rattle.std.proofs.Common.{◌≡◌, ◌∙◌, Option, None, Some, ap, sym, subst, refl, is_some}
use Rattle.std.specs.Map.{lookup}
use Rattle.std.specs.Option.{option_map}
use Rattle.std.proofs.lemmas.Map.Made.{lookup-map_values}
use Rattle.dm_base.specs.declared.ids.ModuleId.{ModuleId}
use Rattle.dm_base.specs.declared.mod_path.PathKind.{PathKind}
use Rattle.dm_base.specs.declared.visibility.RawVisibility.{RawVisibility}
use Rattle.dm_base.specs.Tree.{IsKnown, crate_of, same_module}
use Rattle.dm_maps.specs.Holding.{local_holds, path_holds}
use Rattle.dm_maps.specs.TablesHold.{raw_holds}
use Rattle.dm_def_map.specs.Maps.{Map, Module, LocalMap, module_at}
use Rattle.dm_maps.specs.Stays.{StaysKnown}
use Rattle.dm_maps.specs.Readings.{Setting, setting_of}
use Rattle.dm_maps.specs.Trees.{Outline, outline, tree_of}
use Rattle.dm_maps.specs.World.{World, numbered_map}
use Rattle.hir_def_map.specs.Questions.{IsKnownInCrate, IsKnownQuestion}
use Rattle.hir_def_map.specs.RawVisibilities.{IsKnownVisibility}

there-mapped : {A B : Type 0} (f : A → B) (o : Option A) → is_some (option_map f o) ≡ is_some o
there-mapped f None = refl
there-mapped f (Some x) = refl

-- a map has the modules that its outline has
has-outlined : (m : ModuleId) (M : Map) → is_some (lookup (same_module m) (outline M).modules) ≡ is_some (module_at M.modules m)
has-outlined m M = ap is_some (lookup-map_values (λ (d : Module). d.parent) (same_module m) M.modules) ∙ there-mapped (λ (d : Module). d.parent) (module_at M.modules m)

has-same : (m : ModuleId) (M N : Map) → outline N ≡ outline M → is_some (module_at N.modules m) ≡ is_some (module_at M.modules m)
has-same m M N same = sym (has-outlined m N) ∙ ap (λ (o : Outline). is_some (lookup (same_module m) o.modules)) same ∙ has-outlined m M

-- the setting (the name-independent part of a world) determines the module tree
trees-same : (w v : World) → StaysKnown w v → tree_of v ≡ tree_of w
unfolding setting_of
trees-same w v stays = ap (λ (s : Setting). s.tree) stays.setting

module _ (w v : World) (stays : StaysKnown w v) (M N : Map) (there : numbered_map v M.id ≡ Some N) where
  -- the map of the same id has the outline that it had
  outlined : numbered_map w M.id ≡ Some M → outline N ≡ outline M
  outlined own =
      let outlines : Some (outline N) ≡ Some (outline M) = ap (option_map outline) (sym there) ∙ stays.maps M.id ∙ ap (option_map outline) own in
      cc

  its-own : outline N ≡ outline M → numbered_map v N.id ≡ Some N
  its-own same = ap (λ (o : Outline). numbered_map v o.id) same ∙ there

  pub path-on : (L : LocalMap) (m : ModuleId) (kind : PathKind) → IsKnownQuestion w M L m kind → IsKnownQuestion v N L m kind
  path-on L m kind asked =
      let same = outlined asked.map in record {
        map = its-own same;
        origin = has-same m M N same ∙ asked.origin;
        local_known = stays.all (local_holds L) asked.local_known;
        path_known = stays.all (path_holds kind) asked.path_known;
      }

  pub preludes-on : (L : LocalMap) (m : ModuleId) (kind : PathKind) → IsKnownInCrate w M L m kind → IsKnownInCrate v N L m kind
  preludes-on L m kind asked =
      let same = outlined asked.map in
      let tree : tree_of v ≡ tree_of w = trees-same w v stays in record {
        map = its-own same;
        origin = subst (λ t. IsKnown t m) (sym tree) asked.origin;
        of_crate = ap (λ t. crate_of t m) tree ∙ asked.of_crate ∙ sym (ap (λ (o : Outline). o.id.krate) same);
        local_known = stays.all (local_holds L) asked.local_known;
        path_known = stays.all (path_holds kind) asked.path_known;
      }

  pub visibility-on : (L : LocalMap) (m : ModuleId) (raw : RawVisibility) → IsKnownVisibility w M L m raw → IsKnownVisibility v N L m raw
  visibility-on L m raw asked =
      let same = outlined asked.map in record {
        map = its-own same;
        origin = has-same m M N same ∙ asked.origin;
        local_known = stays.all (local_holds L) asked.local_known;
        path_known = stays.all (raw_holds raw) asked.path_known;
      }
