use Rattle.std.proofs.Common.{◌≡◌, ap, subst, sym}
use Rattle.dm_maps.specs.World.{World}
use Rattle.dm_imports.specs.Brought.{AreAllNamed}
use Rattle.dm_imports.specs.Grounding.{known_from, slots_of}
use Rattle.dm_imports.specs.Tables.{MapTables, of_tables}
use Rattle.dm_imports.proofs.FollowLemmas.{may-offer}
use Rattle.dm_imports.proofs.JoinLemmas.{joined-written}
use Rattle.dm_imports.proofs.rules.grounded.following.join_offer.Goals as goal

pub returns-clause-offered : goal.returns-clause-offered
returns-clause-offered c =
    let d = of_tables c.args.maps.now in
    let k = slots_of c.args.known.now in
    let g = c.args.reader.glob.now in
    let s = c.args.reader.source in
    let same : c.maps.inside.world.now ≡ d.world = ap (λ (t : MapTables). t.world) c.maps.view_is in
    may-offer d k g s c.requires.source c.args.name.now c.args.namespace c.args.offered.now c.add_offer.new.all
    (joined-written c.args.offered.now c.add_offer.new.all g.into c.args.name.now c.args.namespace c.maps.inside.world.now d.world c.args.offer
    (known_from d k g s c.args.name.now c.args.namespace) same c.requires.offer c.in_ok-add_offer.ensures.joined)

pub returns-clause-named : goal.returns-clause-named
returns-clause-named c =
    subst (λ (w : World). AreAllNamed w c.add_offer.new.all) (ap (λ (t : MapTables). t.world) c.maps.view_is) c.in_ok-add_offer.ensures.named

pub add_offer-requires-clause-all : goal.add_offer-requires-clause-all
add_offer-requires-clause-all c =
    subst (λ (w : World). AreAllNamed w c.args.offered.now) (sym (ap (λ (t : MapTables). t.world) c.maps.view_is)) c.requires.named
