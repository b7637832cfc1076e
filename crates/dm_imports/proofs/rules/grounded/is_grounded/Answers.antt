use Rattle.std.proofs.Common.{ap, subst, sym}
use Rattle.dm_maps.specs.World.{World}
use Rattle.dm_imports.specs.Marking.{HasUngrounded}
use Rattle.dm_imports.specs.Supporting.{IsListing}
use Rattle.dm_imports.specs.Tables.{MapTables, of_tables}
use Rattle.dm_imports.proofs.AskLemmas.{maps-known}
use Rattle.dm_imports.proofs.rules.grounded.is_grounded.Goals as goal

pub all_offers-requires-clause-known : goal.all_offers-requires-clause-known
all_offers-requires-clause-known c = maps-known c.args.maps.now c.requires

pub open_ways-requires-clause-ready : goal.open_ways-requires-clause-ready
open_ways-requires-clause-ready c = record {
  known = maps-known c.args.maps.now c.requires;
  brought = c.in_ok-brought.ensures.value;
  named = c.in_ok-brought.ensures.named;
}

pub open_ways-requires-clause-listing : goal.open_ways-requires-clause-listing
open_ways-requires-clause-listing c = subst (λ (w : World). IsListing w c.in_ok-listing.listing) (ap (λ (t : MapTables). t.world) c.maps.view_is) c.in_ok-listing.ensures

pub none_open-requires-clause-all : goal.none_open-requires-clause-all
none_open-requires-clause-all c = subst (HasUngrounded (of_tables c.args.maps.now)) (sym c.as_slice.ensures.value) c.in_ok-left.ensures.all
