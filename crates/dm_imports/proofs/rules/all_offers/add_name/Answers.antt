use Rattle.std.proofs.Common.{◌≡◌, ap, subst}
use Rattle.dm_base.specs.declared.per_ns.Namespace.TheVariants.{Types, Values, Macros}
use Rattle.dm_maps.specs.World.{World}
use Rattle.dm_imports.specs.Brought.{AreAllNamed, join}
use Rattle.dm_imports.specs.Rules.{offer_from}
use Rattle.dm_imports.specs.Tables.{MapTables, of_tables}
use Rattle.dm_imports.proofs.JoinLemmas.{joined-written}
use Rattle.dm_imports.proofs.SlotLemmas.{three-slots}
use Rattle.dm_imports.proofs.rules.all_offers.add_name.Goals as goal

pub returns-clause-joined : goal.returns-clause-joined
returns-clause-joined c =
    let d = of_tables c.args.maps.now in
    let g = c.args.glob.now in
    let n = c.args.name.now in
    let same : c.maps.inside.world.now ≡ d.world = ap (λ (t : MapTables). t.world) c.maps.view_is in
    let a = c.args.all.now in
    let b = c.add_offer.new.all in
    let e = c.add_offer-2.new.all in
    let f = c.add_offer-3.new.all in
    three-slots a b e f g.into n (λ s y. join d.world g.into y (offer_from d g c.args.source n s))
    (joined-written a b g.into n Types c.maps.inside.world.now d.world c.offers_from-offers.result.types (offer_from d g c.args.source n Types) same c.offers_from-offers.ensures.types c.in_ok-add_offer.ensures.joined)
    (joined-written b e g.into n Values c.maps.inside.world.now d.world c.offers_from-offers.result.values (offer_from d g c.args.source n Values) same c.offers_from-offers.ensures.values c.in_ok-add_offer-2.ensures.joined)
    (joined-written e f g.into n Macros c.maps.inside.world.now d.world c.offers_from-offers.result.macros (offer_from d g c.args.source n Macros) same c.offers_from-offers.ensures.macros c.in_ok-add_offer-3.ensures.joined)

pub returns-clause-named : goal.returns-clause-named
returns-clause-named c =
    subst (λ (w : World). AreAllNamed w c.add_offer-3.new.all) (ap (λ (t : MapTables). t.world) c.maps.view_is) c.in_ok-add_offer-3.ensures.named
