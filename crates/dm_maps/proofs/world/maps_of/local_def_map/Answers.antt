use Rattle.std.proofs.Common.{◌≡◌, ◌∙◌, Some, length, slice_get, ap, sym}
use Rattle.std.proofs.lemmas.Bool.{ltb-true}
use Rattle.dm_maps.specs.World.{World}
use Rattle.dm_maps.proofs.GrowthLemmas.{get-within}
use Rattle.dm_maps.proofs.SoundLemmas.{fine_local}
use Rattle.dm_maps.proofs.world.maps_of.local_def_map.Goals as goal

pub returns-clause-known : goal.returns-clause-known
returns-clause-known c =
    let w = c.args.world.now in
    let there = get-within w.crate_maps c.args.krate.0 (ltb-true c.args.krate.0 (length w.crate_maps) c.requires) in
    let local : slice_get w.local_maps c.args.krate.0 ≡ Some c.local_map_at.result.now = ap (λ (x : World). slice_get x.local_maps c.args.krate.0) (sym c.tables.ensures.value) ∙ c.local_map_at.ensures in
    fine_local w c.tables.ensures.world.checked c.args.krate.0 there.0 c.local_map_at.result.now there.1 local
