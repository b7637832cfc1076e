use Rattle.std.proofs.Common.{◌≡◌, ◌∙◌, Some, ap, slice_get, subst, sym}
use Rattle.dm_base.specs.declared.ids.MapId.{MapId}
use Rattle.dm_maps.specs.World.{numbered_map}
use Rattle.dm_def_map.specs.Maps.{LocalMap}
use Rattle.hir_def_map.specs.Questions.{IsKnownInCrate}
use Rattle.defmap_callers.proofs.StayLemmas.{same-local}
use Rattle.defmap_callers.proofs.stays.in_preludes_after.Goals as goal

pub resolve_path_fp_in_all_preludes-requires : goal.resolve_path_fp_in_all_preludes-requires
resolve_path_fp_in_all_preludes-requires c =
    let a = c.args in
    let new = c.push_res.new.self in
    let M = c.crate_def_map-map in
    let N = c.crate_def_map-map-2 in
    let L = c.local_def_map-local in
    let K = c.local_def_map-local-2 in
    let stays = c.in_ok-push_res.ensures.stays_known in
    let found = ap (numbered_map new) (M.ensures.id ∙ sym N.ensures.id) ∙ N.ensures.own in
    let local = same-local a.krate.0 _ _ _ _ L.ensures.map K.ensures.map stays.locals in
    subst (λ (X : LocalMap). IsKnownInCrate new N.result.now X a.m a.path.now.kind) local
    (c.questions_stay_known.ensures.preludes a.world.now new stays M.result.now N.result.now L.result.now a.m a.path.now.kind (record { map = M.ensures.own; origin = c.requires.m; of_crate = c.requires.of_crate ∙ sym (ap (λ (i : MapId). i.krate) M.ensures.id); local_known = L.ensures.known; path_known = c.requires.path }) found)
