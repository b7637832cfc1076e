use Rattle.std.proofs.Common.{◌≡◌, ◌∙◌, Some, ap, slice_get, subst, sym}
use Rattle.dm_maps.specs.World.{numbered_map}
use Rattle.dm_def_map.specs.Maps.{LocalMap}
use Rattle.hir_def_map.specs.RawVisibilities.{IsKnownVisibility}
use Rattle.defmap_callers.proofs.StayLemmas.{same-local}
use Rattle.defmap_callers.proofs.stays.visibility_after.Goals as goal

pub resolve_visibility-requires : goal.resolve_visibility-requires
resolve_visibility-requires c =
    let a = c.args in
    let new = c.push_res.new.self in
    let M = c.crate_def_map-map in
    let N = c.crate_def_map-map-2 in
    let L = c.local_def_map-local in
    let K = c.local_def_map-local-2 in
    let stays = c.in_ok-push_res.ensures.stays_known in
    let found = ap (numbered_map new) (M.ensures.id ∙ sym N.ensures.id) ∙ N.ensures.own in
    let local = same-local a.krate.0 _ _ _ _ L.ensures.map K.ensures.map stays.locals in
    subst (λ (X : LocalMap). IsKnownVisibility new N.result.now X a.m a.written.now) local
    (c.questions_stay_known.ensures.visibility a.world.now new stays M.result.now N.result.now L.result.now a.m a.written.now (record { map = M.ensures.own; origin = c.requires.m M.result.now M.ensures.map; local_known = L.ensures.known; path_known = c.requires.written }) found)
