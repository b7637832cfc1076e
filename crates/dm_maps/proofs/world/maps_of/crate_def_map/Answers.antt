use Rattle.std.proofs.Common.{◌≡◌, ◌∙◌, Some, ap, sym}
use Rattle.dm_maps.specs.World.{World, crate_map}
use Rattle.dm_maps.proofs.MapLemmas.{crate_id-is, crate-own}
use Rattle.dm_maps.proofs.MapFacts.{IsMapOf-checked}
use Rattle.dm_maps.proofs.world.maps_of.crate_def_map.Goals as goal
use Rattle.dm_maps.proofs.world.maps_of.crate_def_map.Goals.{After-crate_map_at}

there : (c : After-crate_map_at) → crate_map c.args.world.now c.args.krate ≡ Some c.crate_map_at.result.now
there c = ap (λ (w : World). crate_map w c.args.krate) (sym c.tables.ensures.value) ∙ c.crate_map_at.ensures

pub returns-clause-id : goal.returns-clause-id
returns-clause-id c = crate_id-is c.args.world.now c.tables.ensures.world.lawful c.args.krate c.crate_map_at.result.now (there c)

pub returns-clause-own : goal.returns-clause-own
returns-clause-own c = crate-own c.args.world.now c.tables.ensures.world.lawful c.args.krate c.crate_map_at.result.now (there c)

pub returns-clause-facts : goal.returns-clause-facts
returns-clause-facts c =
    let w = c.args.world.now in
    IsMapOf-checked w c.tables.ensures.world c.crate_map_at.result.now (crate-own w c.tables.ensures.world.lawful c.args.krate c.crate_map_at.result.now (there c))
