use Rattle.std.proofs.Common.{◌≡◌, ◌∙◌, Bor, List, ap, subst, sym}
use Rattle.std.specs.List.{Contains}
use Rattle.dm_base.specs.Names.{Name}
use Rattle.dm_maps.specs.World.{World}
use Rattle.dm_scope.specs.Sorted.{seen}
use Rattle.dm_imports.specs.Slots.{slot_at}
use Rattle.dm_imports.specs.Supporting.{source_names}
use Rattle.dm_imports.specs.Tables.{MapTables, of_tables}
use Rattle.dm_imports.proofs.JoinLemmas.{glob-joined, no-source}
use Rattle.dm_imports.proofs.rules.all_offers.add_glob.Goals as goal

pub returns-in-None-clause-joined : goal.returns-in-None-clause-joined
returns-in-None-clause-joined c k x t =
    no-source (of_tables c.args.maps.now) c.args.glob.now k x t (slot_at c.args.all.now k x t) (sym c.source_of.ensures ∙ c.in-None.is)

pub returns-in_ok-add_names-in-Some-clause-joined : goal.returns-in_ok-add_names-in-Some-clause-joined
returns-in_ok-add_names-in-Some-clause-joined c =
    let d = of_tables c.args.maps.now in
    let source = c.in-Some.source in
    let same : c.maps.inside.world.now ≡ d.world = ap (λ (t : MapTables). t.world) c.maps.view_is in
    glob-joined d c.args.glob.now source (seen c.as_slice.result.now) c.args.all.now c.add_names.new.all (sym c.source_of.ensures ∙ c.in-Some.is)
    (λ n has.
    subst (λ (l : List (Bor Name)). Contains (seen l) n) (sym c.as_slice.ensures.value)
    (c.in_ok-names-in-Some.ensures n (subst (λ (w : World). Contains (source_names w source) n) (sym same) has)))
    c.in_ok-add_names-in-Some.ensures.joined
