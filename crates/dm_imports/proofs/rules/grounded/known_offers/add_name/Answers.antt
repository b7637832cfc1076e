use Rattle.std.proofs.Common.{◌≡◌, ap, subst, Option}
use Rattle.dm_base.specs.declared.per_ns.Namespace.{Namespace}
use Rattle.dm_base.specs.declared.per_ns.Namespace.TheVariants.{Types, Values, Macros}
use Rattle.dm_maps.specs.World.{World}
use Rattle.dm_imports.specs.declared.meaning.Meaning.{Meaning}
use Rattle.dm_imports.specs.Brought.{AreAllNamed, join}
use Rattle.dm_imports.specs.Grounding.{known_from, slots_of}
use Rattle.dm_imports.specs.Tables.{MapTables, of_tables}
use Rattle.dm_imports.proofs.JoinLemmas.{joined-written}
use Rattle.dm_imports.proofs.SlotLemmas.{three-slots}
use Rattle.dm_imports.proofs.rules.grounded.known_offers.add_name.Goals as goal

pub returns-clause-joined : goal.returns-clause-joined
returns-clause-joined c =
    let d = of_tables c.args.maps.now in
    let g = c.args.glob.now in
    let n = c.args.name.now in
    let offer : Namespace → Option Meaning = known_from d (slots_of c.args.known.now) g c.args.source n in
    let same : c.maps.inside.world.now ≡ d.world = ap (λ (t : MapTables). t.world) c.maps.view_is in
    let a = c.args.all.now in
    let b = c.add_offer.new.all in
    let e = c.add_offer-2.new.all in
    let f = c.add_offer-3.new.all in
    three-slots a b e f g.into n (λ s y. join d.world g.into y (offer s))
    (joined-written a b g.into n Types c.maps.inside.world.now d.world c.known_from-types.result (offer Types) same c.known_from-types.ensures.value c.in_ok-add_offer.ensures.joined)
    (joined-written b e g.into n Values c.maps.inside.world.now d.world c.known_from-values.result (offer Values) same c.known_from-values.ensures.value c.in_ok-add_offer-2.ensures.joined)
    (joined-written e f g.into n Macros c.maps.inside.world.now d.world c.known_from-macros.result (offer Macros) same c.known_from-macros.ensures.value c.in_ok-add_offer-3.ensures.joined)

pub returns-clause-named : goal.returns-clause-named
returns-clause-named c =
    subst (λ (w : World). AreAllNamed w c.add_offer-3.new.all) (ap (λ (t : MapTables). t.world) c.maps.view_is) c.in_ok-add_offer-3.ensures.named
