-- A push leaves what is known, and the name-independent part of a world.
use Rattle.std.proofs.Common.{◌≡◌, [], true, not, nat_eq, Option, None, Some, length, refl, sym, ◌∙◌, ap, IsTrue}
use Rattle.std.specs.Option.{option_map, option_map_or}
use Rattle.std.proofs.lemmas.List.{length-map}
use Rattle.dm_maps.proofs.Ids.{ImportOrExternCrate, ModuleId, Name, Place}
use Rattle.dm_base.specs.declared.ids.MapId.{MapId}
use Rattle.dm_base.specs.declared.per_ns.PerNs.{PerNs}
use Rattle.dm_scope.specs.Flags.{Globs}
use Rattle.dm_scope.specs.Push.{scope_after}
use Rattle.dm_scope.specs.Scope.{Scope}
use Rattle.dm_maps.specs.declared.check.held.HeldId.{HeldId}
use Rattle.dm_def_map.specs.Maps.{Map}
use Rattle.dm_maps.specs.PushRes.{with_push}
use Rattle.dm_maps.specs.Cut.{cut, cut_map}
use Rattle.dm_maps.specs.CutLaws.{setting-cut, numbered-outline-cut}
use Rattle.dm_maps.specs.Known.{knows}
use Rattle.dm_maps.specs.Readings.{setting_of}
use Rattle.dm_maps.specs.Stays.{StaysKnown}
use Rattle.dm_maps.specs.Trees.{Outline, outline}
use Rattle.dm_maps.specs.World.{World, numbered_map, place_of, scope_of, with_scope_in}
use Rattle.dm_maps.proofs.AllLemmas.{all-weaker}
use Rattle.dm_maps.proofs.CutPush.{push-cut}
use Rattle.dm_maps.proofs.ScopeWrites.{knows-scoped}

-- whether a map is lacked is read of its outline
lacks-outline : (o : Option Map) (id : MapId) → option_map_or (λ (m : Map). not (nat_eq m.id.krate.0 id.krate.0)) o true ≡ option_map_or (λ (x : Outline). not (nat_eq x.id.krate.0 id.krate.0)) (option_map outline o) true
lacks-outline None id = refl
lacks-outline (Some m) id = refl

-- the cut by no name has the name-independent part of a world
pub same-cut : (w v : World) → cut v [] ≡ cut w [] → v.local_maps ≡ w.local_maps → ((h : HeldId) → knows v h ≡ knows w h) → StaysKnown w v
same-cut w v same locals ids =
    let maps : (id : MapId) → option_map outline (numbered_map v id) ≡ option_map outline (numbered_map w id) = λ id.
    sym (numbered-outline-cut v [] id) ∙ ap (λ u. option_map outline (numbered_map u id)) same ∙ numbered-outline-cut w [] id in record {
      id = ids;
      all = λ hs known. all-weaker (λ h. IsTrue (knows w h)) (λ h. IsTrue (knows v h)) (λ h e. ids h ∙ e) hs known;
      setting = sym (setting-cut v []) ∙ ap setting_of same ∙ setting-cut w [];
      maps = maps;
      lacks = λ id. lacks-outline (numbered_map v id) id ∙ ap (λ o. option_map_or (λ (x : Outline). not (nat_eq x.id.krate.0 id.krate.0)) o true) (maps id) ∙ sym (lacks-outline (numbered_map w id) id);
      blocks = sym (length-map v.block_maps (cut_map [])) ∙ ap (λ (u : World). length u.block_maps) same ∙ length-map w.block_maps (cut_map []);
      locals = locals;
    }

pub locals-scoped : (w : World) (o : Option Place) (s : Scope) → (with_scope_in w o s).local_maps ≡ w.local_maps
locals-scoped w None s = refl
locals-scoped w (Some p) s = refl

pub push-known : (w : World) (g : Globs) (m : ModuleId) (n : Name) (x : PerNs) (by : Option ImportOrExternCrate) → StaysKnown w (with_push w g m n x by)
push-known w g m n x by = same-cut w (with_push w g m n x by) (push-cut w [] g m n x by refl) (locals-scoped w (place_of w m) (scope_after (scope_of w m) g m n x by)) (knows-scoped w m (scope_after (scope_of w m) g m n x by))
