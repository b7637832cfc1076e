use Rattle.std.proofs.Common.{Some, ap}
use Rattle.dm_maps.specs.First.{crate_holder, each_from}
use Rattle.dm_maps.proofs.FirstLemmas.{drop-entry, walk-ends, walk-goes_on}
use Rattle.dm_maps.proofs.check.first_fault.of_crate_maps.Goals as goal

pub returns-in-Some : goal.returns-in-Some
returns-in-Some c =
    let e = ap (each_from (crate_holder c.args.locals.now) c.loop-k.k) (drop-entry c.args.maps.now c.loop-k.k c.index-maps-k.result c.index-maps-k.result c.loop-k-test.true c.index-maps-k.is) in
    c.loop-k.invariant (Some c.in-Some.fault) (walk-ends c.args.world.now e c.in-Some.ensures)

pub loop-k-preserved : goal.loop-k-preserved
loop-k-preserved c r is =
    let e = ap (each_from (crate_holder c.args.locals.now) c.loop-k.k) (drop-entry c.args.maps.now c.loop-k.k c.index-maps-k.result c.index-maps-k.result c.loop-k-test.true c.index-maps-k.is) in
    c.loop-k.invariant r (walk-goes_on c.args.world.now e c.in_default.ensures r is)
