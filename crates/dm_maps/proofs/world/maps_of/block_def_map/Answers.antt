use Rattle.std.proofs.Common.{◌≡◌, ◌∙◌, Some, slice_get, ap, sym}
use Rattle.dm_maps.specs.World.{World}
use Rattle.dm_maps.proofs.MapLemmas.{block_id-is, block-own}
use Rattle.dm_maps.proofs.MapFacts.{IsMapOf-checked}
use Rattle.dm_maps.proofs.world.maps_of.block_def_map.Goals as goal
use Rattle.dm_maps.proofs.world.maps_of.block_def_map.Goals.{After-block_map_at}

there : (c : After-block_map_at) → slice_get c.args.world.now.block_maps c.args.block.0 ≡ Some c.block_map_at.result.now
there c = ap (λ (w : World). slice_get w.block_maps c.args.block.0) (sym c.tables.ensures.value) ∙ c.block_map_at.ensures

pub returns-clause-id : goal.returns-clause-id
returns-clause-id c = block_id-is c.args.world.now c.tables.ensures.world.lawful c.args.block c.block_map_at.result.now (there c)

pub returns-clause-own : goal.returns-clause-own
returns-clause-own c = block-own c.args.world.now c.tables.ensures.world.lawful c.args.block c.block_map_at.result.now (there c)

pub returns-clause-facts : goal.returns-clause-facts
returns-clause-facts c =
    let w = c.args.world.now in
    IsMapOf-checked w c.tables.ensures.world c.block_map_at.result.now (block-own w c.tables.ensures.world.lawful c.args.block c.block_map_at.result.now (there c))
