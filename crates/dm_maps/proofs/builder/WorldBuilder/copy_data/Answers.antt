use Rattle.std.proofs.Common.{ap, sym, subst}
use Rattle.dm_maps.specs.BlockLists.{AreNumbered}
use Rattle.dm_maps.specs.Tables.{tables_of}
use Rattle.dm_maps.specs.World.{World}
use Rattle.dm_maps.proofs.BlockListLemmas.{world-numbered}
use Rattle.dm_maps.proofs.SettingLemmas.{takes-data, crate-found}
use Rattle.dm_maps.proofs.builder.WorldBuilder.copy_data.Goals as goal

pub returns-in_ok-data-in-Some-clause-own : goal.returns-in_ok-data-in-Some-clause-own
returns-in_ok-data-in-Some-clause-own c =
    takes-data c.args.self.now c.args.krate c.in-Some.map.now
    (subst AreNumbered (ap (λ (w : World). w.crate_maps) c.self.view_is) (world-numbered (tables_of c.self.inside) c.self.invariant.0.0)) (sym c.in-Some.ensures)

pub returns-in_ok-data-in-Some-clause-fault : goal.returns-in_ok-data-in-Some-clause-fault
returns-in_ok-data-in-Some-clause-fault c = crate-found c.args.self.now c.args.krate c.in-Some.map.now (sym c.in-Some.ensures) c.in_ok-data-in-Some.data
