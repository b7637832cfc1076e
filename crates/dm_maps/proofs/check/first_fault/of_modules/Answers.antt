use Rattle.std.proofs.Common.{None, Some, ap, get_or, refl}
use Rattle.dm_maps.proofs.Ids.{Place}
use Rattle.dm_maps.specs.First.{each_from, module_holder}
use Rattle.dm_maps.proofs.FirstLemmas.{drop-entry, walk-ends, walk-goes_on}
use Rattle.dm_maps.proofs.check.first_fault.of_modules.Goals as goal

-- what a read past the end would give
abbrev origin : Place
origin = record { map = record { krate = record { 0 = 0 }; block = None }; index = 0; parent = None }

pub returns-in-Some : goal.returns-in-Some
returns-in-Some c =
    let e = ap (each_from (module_holder c.args.world.now) c.loop-i.i) (drop-entry c.args.places.now c.loop-i.i origin (get_or c.args.places.now c.loop-i.i origin) c.loop-i-test.true refl) in
    c.loop-i.invariant (Some c.in-Some.fault) (walk-ends c.args.world.now e c.in-Some.ensures)

pub loop-i-preserved : goal.loop-i-preserved
loop-i-preserved c r is =
    let e = ap (each_from (module_holder c.args.world.now) c.loop-i.i) (drop-entry c.args.places.now c.loop-i.i origin (get_or c.args.places.now c.loop-i.i origin) c.loop-i-test.true refl) in
    c.loop-i.invariant r (walk-goes_on c.args.world.now e c.in_default.ensures r is)
