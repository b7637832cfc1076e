use Rattle.std.proofs.Common.{◌≡◌, Bor, List, ap, subst, sym}
use Rattle.std.specs.List.{Contains}
use Rattle.dm_base.specs.Names.{Name}
use Rattle.dm_maps.specs.World.{World}
use Rattle.dm_scope.specs.Sorted.{seen}
use Rattle.dm_imports.specs.Grounding.{HasSource, slots_of}
use Rattle.dm_imports.specs.Slots.{slot_at}
use Rattle.dm_imports.specs.Supporting.{source_names}
use Rattle.dm_imports.specs.Tables.{MapTables, of_tables}
use Rattle.dm_imports.proofs.KnownOfferLemmas.{known-joined, known-none}
use Rattle.dm_imports.proofs.rules.grounded.known_offers.add_glob.Goals as goal

pub returns-in-None-clause-joined : goal.returns-in-None-clause-joined
returns-in-None-clause-joined c k x t =
    let d = of_tables c.args.maps.now in
    let none = subst (HasSource d (slots_of c.args.known.now) c.args.glob.now) c.in-None.is c.known_source.ensures in
    known-none d (slots_of c.args.known.now) c.args.glob.now none k x t (slot_at c.args.all.now k x t)

pub returns-in_ok-add_names-in-Some-clause-joined : goal.returns-in_ok-add_names-in-Some-clause-joined
returns-in_ok-add_names-in-Some-clause-joined c =
    let d = of_tables c.args.maps.now in
    let source = c.in-Some.source in
    let both = subst (HasSource d (slots_of c.args.known.now) c.args.glob.now) c.in-Some.is c.known_source.ensures in
    let same : c.maps.inside.world.now ≡ d.world = ap (λ (t : MapTables). t.world) c.maps.view_is in
    known-joined d (slots_of c.args.known.now) c.args.glob.now source (seen c.as_slice.result.now) c.args.all.now c.add_names.new.all both
    (λ n has.
    subst (λ (l : List (Bor Name)). Contains (seen l) n) (sym c.as_slice.ensures.value)
    (c.in_ok-names-in-Some.ensures n (subst (λ (w : World). Contains (source_names w source) n) (sym same) has)))
    c.in_ok-add_names-in-Some.ensures.joined
