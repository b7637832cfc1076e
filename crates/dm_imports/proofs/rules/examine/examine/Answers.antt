use Rattle.std.proofs.Common.{ap, subst, sym}
use Rattle.dm_maps.specs.World.{World}
use Rattle.dm_imports.specs.Brought.{AreAllNamed, IsBrought}
use Rattle.dm_imports.specs.Marking.{AreUngrounded, HasUngrounded}
use Rattle.dm_imports.specs.Supporting.{GivenTables, IsListing}
use Rattle.dm_imports.specs.Tables.{MapTables, of_tables}
use Rattle.dm_imports.proofs.AskLemmas.{maps-known}
use Rattle.dm_imports.proofs.rules.examine.examine.Goals as goal

pub open_ways-requires-clause-ready : goal.open_ways-requires-clause-ready
open_ways-requires-clause-ready c =
    let d = of_tables c.args.maps.now in
    let same = ap (λ (g : GivenTables). g.globs) (sym c.given.view_is) in
    record {
      known = maps-known c.args.maps.now c.requires;
      brought = subst (IsBrought d) same c.in_ok-given.ensures.value.globs;
      named = subst (AreAllNamed d.world) same c.in_ok-given.ensures.named;
    }

pub judge-requires-clause-listing : goal.judge-requires-clause-listing
judge-requires-clause-listing c = subst (λ (w : World). IsListing w c.in_ok-listing.listing) (ap (λ (t : MapTables). t.world) c.maps.view_is) c.in_ok-listing.ensures

pub open_ways-requires-clause-listing : goal.open_ways-requires-clause-listing
open_ways-requires-clause-listing c = subst (λ (w : World). IsListing w c.in_ok-listing.listing) (ap (λ (t : MapTables). t.world) c.maps.view_is) c.in_ok-listing.ensures

pub order_dependent-requires-clause-each : goal.order_dependent-requires-clause-each
order_dependent-requires-clause-each c = subst (AreUngrounded (of_tables c.args.maps.now)) (sym c.as_slice-open.ensures.value) c.in_ok-left.ensures.each

pub order_dependent-requires-clause-all : goal.order_dependent-requires-clause-all
order_dependent-requires-clause-all c = subst (HasUngrounded (of_tables c.args.maps.now)) (sym c.as_slice-open.ensures.value) c.in_ok-left.ensures.all

pub none_open-requires-clause-each : goal.none_open-requires-clause-each
none_open-requires-clause-each c = subst (AreUngrounded (of_tables c.args.maps.now)) (sym c.as_slice-open.ensures.value) c.in_ok-left.ensures.each

pub none_open-requires-clause-all : goal.none_open-requires-clause-all
none_open-requires-clause-all c = subst (HasUngrounded (of_tables c.args.maps.now)) (sym c.as_slice-open.ensures.value) c.in_ok-left.ensures.all
