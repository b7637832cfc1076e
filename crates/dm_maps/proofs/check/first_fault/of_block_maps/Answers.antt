use Rattle.std.proofs.Common.{Some, ap, map}
use Rattle.dm_maps.specs.First.{block_holder}
use Rattle.dm_maps.proofs.FirstLemmas.{drop-entry, walk-ends, walk-goes_on}
use Rattle.dm_maps.proofs.check.first_fault.of_block_maps.Goals as goal

pub returns-in-Some : goal.returns-in-Some
returns-in-Some c =
    let e = ap (map block_holder) (drop-entry c.args.maps.now c.loop-map.map-index c.map-item.result c.map-item.result c.loop-map-test.true c.map-item.is) in
    c.loop-map.invariant (Some c.in-Some.fault) (walk-ends c.args.world.now e c.in-Some.ensures)

pub loop-map-preserved : goal.loop-map-preserved
loop-map-preserved c r is =
    let e = ap (map block_holder) (drop-entry c.args.maps.now c.loop-map.map-index c.map-item.result c.map-item.result c.loop-map-test.true c.map-item.is) in
    c.loop-map.invariant r (walk-goes_on c.args.world.now e c.in_default.ensures r is)
